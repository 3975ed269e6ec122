-- Laws of what is played: bytes in two calls are the bytes in one, and a keyboard that may be kept is left so.
use Rattle.std.specs.Prelude.{◌≡◌, List, [], ◌∷◌, ◌++◌, ℕ, ◌+◌, ◌≤◌, ◌<◌, ltb, eqb, length, get_or, take}
use Rattle.std.proofs.Math.Path.{refl}
use Rattle.std.proofs.Common.{sym, ap, ◌∙◌, add-one, arith, ltb-true, ltb-false, eqb-true, eq-eqb, ne_eqb, take-suc}
use Rattle.std.proofs.lemmas.Bool.{eqb-false}
use Rattle.whole.specs.Tests.{cond_case}
use Rattle.keyboard.specs.declared.Keyboard.{Keyboard}
use Rattle.keyboard.specs.Keys.{no_key, no_status, no_data, fresh, note_on, note_off, data_bytes, released, key_after, after_data, after_byte, played, on_channel, StatusIn, not_running, running, HalfIn, not_begun, begun, KeyboardIn}

-- ---- bytes in two calls are the bytes in one
pub played-append : (channel : ℕ) (k : Keyboard) (xs ys : List ℕ) → played channel k (xs ++ ys) ≡ played channel (played channel k xs) ys
unfolding played
played-append channel k [] ys = refl
played-append channel k (b ∷ xs) ys = played-append channel (after_byte channel k b) xs ys

-- one byte more
pub played_next : (channel : ℕ) (k : Keyboard) (bs : List ℕ) (i : ℕ) → i < length bs → after_byte channel (played channel k (take i bs)) (get_or bs i 0) ≡ played channel k (take (i + 1) bs)
unfolding played
played_next channel k bs i l =
    sym (ap (λ (n : ℕ). played channel k (take n bs)) (add-one i) ∙ ap (played channel k) (take-suc bs i 0 l) ∙ played-append channel k (take i bs) (get_or bs i 0 ∷ []))

-- ---- what is kept
pub fresh_in : KeyboardIn fresh
fresh_in = record { key = omega arith; status = not_running refl; half = not_begun refl }

-- none is 128
pub key-within : {k : Keyboard} → KeyboardIn k → k.key ≤ 128
key-within i = i.key

released-within : (key note : ℕ) → key ≤ no_key → released key note ≤ no_key
unfolding released
released-within key note h = cond_case (eqb note key) no_key key (λ (n : ℕ). n ≤ no_key) (λ e. omega arith) (λ e. h)

key_after-within : (channel key status note velocity : ℕ) → key ≤ no_key → note < 128 → key_after channel key status note velocity ≤ no_key
unfolding key_after
key_after-within channel key status note velocity h l =
    cond_case (eqb status (note_on channel)) _ _ (λ (n : ℕ). n ≤ no_key)
    (λ e. cond_case (ltb 0 velocity) note _ (λ (n : ℕ). n ≤ no_key) (λ e. omega arith) (λ e. released-within key note h))
    (λ e. cond_case (eqb status (note_off channel)) _ key (λ (n : ℕ). n ≤ no_key) (λ e. released-within key note h) (λ e. h))

-- a running status that there is, and a half message that there is
pub status-running : {status : ℕ} → StatusIn status → (status ≡ no_status → ⊥) → (128 ≤ status) × (status < 240)
status-running (not_running e) n = absurd (n e)
status-running (running l h) n = (l, h)

pub half-begun : {status half : ℕ} → HalfIn status half → (half ≡ no_data → ⊥) → (half < 128) × (data_bytes status ≡ 2)
half-begun (not_begun e) n = absurd (n e)
half-begun (begun l e) n = (l, e)

module _ (channel : ℕ) {k : Keyboard} (i : KeyboardIn k) where
  after_data_in : (b : ℕ) → b < 128 → KeyboardIn (after_data channel k b)
  unfolding after_data
  after_data_in b l =
      cond_case (eqb (data_bytes k.status) 2) _ k KeyboardIn
      (λ e. cond_case (eqb k.half no_data) _ _ KeyboardIn
      (λ f. record { key = i.key; status = i.status; half = begun l (eqb-true _ _ e) })
      (λ f. record { key = key_after-within channel k.key k.status k.half b i.key (half-begun i.half (eqb-false _ _ f)).0; status = i.status; half = not_begun refl }))
      (λ e. i)

  pub after_byte_in : (b : ℕ) → KeyboardIn (after_byte channel k b)
  unfolding after_byte
  after_byte_in b =
      cond_case (ltb b 128) _ _ KeyboardIn (λ e. after_data_in b (ltb-true b 128 e))
      (λ e. cond_case (ltb b 240) _ _ KeyboardIn (λ f. record { key = i.key; status = running (ltb-false b 128 e) (ltb-true b 240 f); half = not_begun refl })
      (λ f. cond_case (ltb b 248) _ k KeyboardIn (λ g. record { key = i.key; status = not_running refl; half = not_begun refl }) (λ g. i)))

pub played_in : (channel : ℕ) (k : Keyboard) (bs : List ℕ) → KeyboardIn k → KeyboardIn (played channel k bs)
unfolding played
played_in channel k [] i = i
played_in channel k (b ∷ bs) i = played_in channel (after_byte channel k b) bs (after_byte_in channel i b)

-- ---- a channel chosen
pub same-channel : {inForce chosen : ℕ} (k : Keyboard) → chosen ≡ inForce → on_channel inForce chosen k ≡ k
unfolding on_channel
same-channel {inForce} {chosen} k e = rw (eq-eqb chosen inForce e)

pub other-channel : {inForce chosen : ℕ} (k : Keyboard) → (chosen ≡ inForce → ⊥) → on_channel inForce chosen k ≡ fresh
unfolding on_channel
other-channel {inForce} {chosen} k n = rw (ne_eqb chosen inForce n)

pub on_channel_in : (inForce chosen : ℕ) (k : Keyboard) → KeyboardIn k → KeyboardIn (on_channel inForce chosen k)
unfolding on_channel
on_channel_in inForce chosen k i = cond_case (eqb chosen inForce) k fresh KeyboardIn (λ e. i) (λ e. fresh_in)
