-- Laws of numbers in bytes: how two and four bytes are read and stored, and that what is stored is read back.
use Rattle.std.specs.Prelude.{set, ◌≡◌, refl, List, [], ◌∷◌, ◌++◌, length, take, drop}
use Rattle.std.proofs.Common.{sym, ◌∙◌, inl, inr, ⊎_elim, append_assoc, pow-suc, length-take-le, get_or-append-add, get_or-take, get_or-drop}
use Rattle.std.proofs.Math.Path.{ap}
use Prim.Native.Nat.{ℕ, zero, suc, ◌+◌, ◌*◌, ◌/◌, ◌%◌, ◌^◌, ◌≤◌, ◌<◌}
use native.Mathlib.Omega.{arith}
use Rattle.std.specs.Int.{w32, to_le_bytes}
use Rattle.std.proofs.Math.ListN.{get_or}
use Rattle.std.proofs.lemmas.List.Edits.{sets, sets-eq}
use Rattle.riff.specs.Riff.{number_at, bytes_of}
use Rattle.riff.specs.Stores.{Outside, outside_stays}

-- ---- read
module _ (b : List ℕ) (at : ℕ) where
  pub two_is : number_at b at 2 ≡ get_or b at 0 + 256 * get_or b (at + 1) 0
  unfolding number_at
  two_is =
      let e : suc at ≡ at + 1 = omega arith in
      ap (λ (n : ℕ). get_or b at 0 + 256 * (get_or b n 0 + 256 * 0)) e ∙ omega arith

  pub four_is : number_at b at 4 ≡ get_or b at 0 + 256 * get_or b (at + 1) 0 + 65536 * get_or b (at + 2) 0 + 16777216 * get_or b (at + 3) 0
  unfolding number_at
  four_is =
      let e : suc at ≡ at + 1 = omega arith in
      let f : suc (suc at) ≡ at + 2 = omega arith in
      let g : suc (suc (suc at)) ≡ at + 3 = omega arith in
      (λ i. get_or b at 0 + 256 * (get_or b (e i) 0 + 256 * (get_or b (f i) 0 + 256 * (get_or b (g i) 0 + 256 * 0)))) ∙ omega arith

-- ---- stored
pub length-bytes_of : (k n : ℕ) → length (bytes_of k n) ≡ k
unfolding bytes_of
length-bytes_of zero n = refl
length-bytes_of (suc k) n = ap suc (length-bytes_of k (n / 256))

-- the four bytes that std has of a number, and two of them that are stored
pub four-bytes : (n : ℕ) → to_le_bytes w32 n ≡ bytes_of 4 n
unfolding bytes_of
four-bytes n =
    let e : n / 65536 ≡ n / 256 / 256 = omega arith in
    let f : n / 16777216 ≡ n / 256 / 256 / 256 = omega arith in
    λ i. (n % 256) ∷ (n / 256 % 256) ∷ (e i % 256) ∷ (f i % 256) ∷ []

pub two_stored : (l : List ℕ) (at n : ℕ) → set (set l at (n % 256)) (at + 1) (n / 256 % 256) ≡ sets l at (bytes_of 2 n)
unfolding bytes_of
two_stored l at n = let e : at + 1 ≡ suc at = omega arith in ap (λ (k : ℕ). set (set l at (n % 256)) k (n / 256 % 256)) e

-- ---- behind other bytes, and back
pub number_behind : (p q : List ℕ) (at k : ℕ) → number_at (p ++ q) (length p + at) k ≡ number_at q at k
unfolding number_at
number_behind p q at zero = refl
number_behind p q at (suc k) =
    let e : suc (length p + at) ≡ length p + suc at = omega arith in
    let r = ap (λ (n : ℕ). number_at (p ++ q) n k) e ∙ number_behind p q (suc at) k in
    λ i. get_or-append-add p q at 0 i + 256 * r i

pub number-back : (k n : ℕ) (q : List ℕ) → n < 256 ^ k → number_at (bytes_of k n ++ q) 0 k ≡ n
unfolding number_at bytes_of
number-back zero n q h = omega arith
number-back (suc k) n q h =
    let r = number_behind (n % 256 ∷ []) (bytes_of k (n / 256) ++ q) 0 k ∙ number-back k (n / 256) q (omega (arith, pow-suc 256 k)) in
    ap (λ (m : ℕ). n % 256 + 256 * m) r ∙ omega arith

-- ---- after a run of stores: one that lies outside it, and the one that was stored
pub number_outside : (l : List ℕ) (i : ℕ) (vs : List ℕ) (at k : ℕ) → Outside i (length vs) at k → number_at (sets l i vs) at k ≡ number_at l at k
unfolding number_at
number_outside l i vs at zero o = refl
number_outside l i vs at (suc k) o =
    let r = number_outside l i vs (suc at) k (⊎_elim (λ h. inl (omega arith)) (λ h. inr (omega arith)) o) in
    let g = outside_stays l i vs at 0 (⊎_elim (λ h. inl (omega arith)) (λ h. inr (omega arith)) o) in
    λ j. g j + 256 * r j

pub number-stored : (l : List ℕ) (i k n : ℕ) → i + k ≤ length l → n < 256 ^ k → number_at (sets l i (bytes_of k n)) i k ≡ n
number-stored l i k n h s =
    let b = bytes_of k n in
    let m = length-bytes_of k n in
    let p = length-take-le i l (omega arith) in
    let e : length (take i l) + 0 ≡ i = omega (arith, p) in
    ap (λ (f : List ℕ). number_at f i k) (sets-eq b l i (omega (arith, m)) ∙ append_assoc (take i l) b (drop (i + length b) l))
    ∙ ap (λ (at : ℕ). number_at (take i l ++ (b ++ drop (i + length b) l)) at k) (sym e)
    ∙ number_behind (take i l) (b ++ drop (i + length b) l) 0 k
    ∙ number-back k n (drop (i + length b) l) s

-- ---- a piece of a file that was read by itself: its numbers are the file's
pub number-part : (file : List ℕ) (at m i k : ℕ) → i + k ≤ m → number_at (take m (drop at file)) i k ≡ number_at file (at + i) k
unfolding number_at
number-part file at m i zero h = refl
number-part file at m i (suc k) h =
    let e : at + suc i ≡ suc (at + i) = omega arith in
    let r = number-part file at m (suc i) k (omega arith) ∙ ap (λ (n : ℕ). number_at file n k) e in
    let g = get_or-take m (drop at file) i 0 (omega arith) ∙ get_or-drop at file i 0 in
    λ j. g j + 256 * r j
