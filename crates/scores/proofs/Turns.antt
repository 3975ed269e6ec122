-- The bytes from one note to the next leave that one held.
use Rattle.std.specs.Prelude.{◌≡◌, [], ◌∷◌, ℕ, ◌≤◌, ◌<◌, eqb}
use Rattle.std.proofs.Math.Path.{refl, sym}
use Rattle.std.proofs.Common.{ap, ◌∙◌, arith}
use borrow.Author.Tests.{eqb-true, eqb-false, eq-eqb, ne_eqb, lt-ltb, le-ltb, lt-leb}
use Rattle.whole.specs.Tests.{by}
use Rattle.rules.specs.Rules.{no_note}
use Rattle.keyboard.specs.declared.Keyboard.{Keyboard}
use Rattle.keyboard.specs.Keys.{note_on, note_off, waiting, data_bytes, released, key_after, after_data, after_byte, played}
use Rattle.keyboard.specs.Playing.{played-append}
use Rattle.scores.specs.Scores.{goes_up, goes_down, turn}

module _ (channel : ℕ) (h : channel ≤ 15) where
  two_data : (status : ℕ) → 128 ≤ status → status < 192 → data_bytes status ≡ 2
  unfolding data_bytes
  two_data status a b = rw (ne_eqb status 0 (λ e. omega arith), lt-leb 192 status b)

  -- a message of two data bytes, byte by byte, from any keyboard
  begins : (k : Keyboard) (status : ℕ) → 128 ≤ status → status < 240 → after_byte channel k status ≡ waiting k.key status
  unfolding after_byte
  begins k status a b = rw (le-ltb status 128 a, lt-ltb status 240 b)

  goes_on : (key status n : ℕ) → data_bytes status ≡ 2 → n < 128 → after_byte channel (waiting key status) n ≡ record { key = key; status = status; half = n }
  unfolding after_byte after_data
  goes_on key status n d l = rw (lt-ltb n 128 l, d)

  ends : (key status n v : ℕ) → data_bytes status ≡ 2 → n < 128 → v < 128 → after_byte channel (record { key = key; status = status; half = n }) v ≡ waiting (key_after channel key status n v) status
  unfolding after_byte after_data
  ends key status n v d l m = rw (lt-ltb v 128 m, d, ne_eqb n 128 (λ e. omega arith))

  message-is : (k : Keyboard) (status n v : ℕ) → played channel k (status ∷ n ∷ v ∷ []) ≡ after_byte channel (after_byte channel (after_byte channel k status) n) v
  unfolding played
  message-is k status n v = refl

  message-key : (k : Keyboard) (status n v : ℕ) → 128 ≤ status → status < 192 → n < 128 → v < 128 → (played channel k (status ∷ n ∷ v ∷ [])).key ≡ key_after channel k.key status n v
  message-key k status n v a b l m =
      let d = two_data status a b in
      ap (λ (q : Keyboard). q.key)
      (message-is k status n v
      ∙ ap (λ (q : Keyboard). after_byte channel (after_byte channel q n) v) (begins k status a (omega arith))
      ∙ ap (λ (q : Keyboard). after_byte channel q v) (goes_on k.key status n d l)
      ∙ ends k.key status n v d l m)

  up_key : (k : Keyboard) (n : ℕ) → n < 128 → k.key ≡ n → (played channel k (note_off channel ∷ n ∷ 64 ∷ [])).key ≡ 128
  unfolding key_after released
  up_key k n l e =
      message-key k (note_off channel) n 64 (omega arith) (omega arith) l (omega arith)
      ∙ rw (ne_eqb (note_off channel) (note_on channel) (λ z. omega arith), eq-eqb (note_off channel) (note_off channel) refl, eq-eqb n k.key (sym e))

  down_key : (k : Keyboard) (n : ℕ) → n < 128 → (played channel k (note_on channel ∷ n ∷ 100 ∷ [])).key ≡ n
  unfolding key_after
  down_key k n l =
      message-key k (note_on channel) n 100 (omega arith) (omega arith) l (omega arith)
      ∙ rw (eq-eqb (note_on channel) (note_on channel) refl)

  goes_up_key : (k : Keyboard) (n : ℕ) → n ≤ 128 → k.key ≡ n → (played channel k (goes_up channel n)).key ≡ 128
  unfolding goes_up played
  goes_up_key k n l e =
      by (eqb n no_note)
      (λ y. rw y (e ∙ eqb-true n no_note y))
      (λ y. rw y (up_key k n (omega (arith, eqb-false n no_note y)) e))

  goes_down_key : (k : Keyboard) (n : ℕ) → n ≤ 128 → k.key ≡ 128 → (played channel k (goes_down channel n)).key ≡ n
  unfolding goes_down played
  goes_down_key k n l e =
      by (eqb n no_note)
      (λ y. rw y (e ∙ sym (eqb-true n no_note y)))
      (λ y. rw y (down_key k n (omega (arith, eqb-false n no_note y))))

  nothing : (q : Keyboard) → (played channel q []).key ≡ q.key
  unfolding played
  nothing q = refl

  pub turn-key : (k : Keyboard) (last note : ℕ) → last ≤ 128 → note ≤ 128 → k.key ≡ last → (played channel k (turn channel last note)).key ≡ note
  unfolding turn
  turn-key k last note a b e =
      by (eqb note last)
      (λ y. rw y (nothing k ∙ e ∙ sym (eqb-true note last y)))
      (λ y.
      rw y
      (ap (λ (q : Keyboard). q.key) (played-append channel k (goes_up channel last) (goes_down channel note))
      ∙ goes_down_key (played channel k (goes_up channel last)) note b (goes_up_key k last a e)))
