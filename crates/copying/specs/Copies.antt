-- Samples laid into a store, and the kept samples with what comes after them in one store.
use Rattle.std.specs.Prelude.{◌≡◌, refl, List, [], ◌∷◌, ◌++◌, ℕ, zero, suc, ◌+◌, ◌≤◌, ℤ, pos, take, drop, replicate}
use Rattle.std.proofs.Common.{sym, ◌∙◌, append-nil, zero-add, add-zero, suc-add, arith, length-append, length-drop, length-take-le, take-take, drop_at, SFits}
use Rattle.std.proofs.Math.Path.{ap}
use Rattle.std.proofs.Math.ListN.{length}
use Rattle.std.proofs.Math.Seq.{take-nil, take_at}
use Rattle.std.specs.Int.{w16}
use Rattle.rules.specs.Rules.{silence, heard_all}
use Rattle.rules.specs.Facts.{value_at, keeping}
use Rattle.ages.specs.Ages.{ago, Samples}

-- the samples xs laid into a store from a place on
abbrev pub laid : List ℤ → ℕ → List ℤ → List ℤ
laid s from xs = take from s ++ xs ++ drop (from + length xs) s

-- ---- the kept samples and what comes after them, in one store of n places
pub record Joined (kept new : List ℤ) (n : ℕ) (r : List ℤ) : Type 0 where
  pub long : length r ≡ n
  pub samples : Samples r
  pub starts : take (length kept + length new) r ≡ kept ++ new

-- a part that is taken after a drop is a drop of what is taken
pub take-drop : (k n : ℕ) (l : List ℤ) → take n (drop k l) ≡ drop k (take (k + n) l)
take-drop zero n l = ap (λ (m : ℕ). take m l) (sym (zero-add n))
take-drop (suc k) n [] = take-nil n ∙ sym (ap (drop (suc k)) (take-nil (suc k + n)))
take-drop (suc k) n (x ∷ l) = take-drop k n l ∙ ap (λ (m : ℕ). drop (suc k) (take m (x ∷ l))) (sym (suc-add k n))

module _ {kept new : List ℤ} {n : ℕ} {r : List ℤ} (j : Joined kept new n r) where
  pub joined-sound : ago r (length kept + length new) ≡ heard_all silence (kept ++ new)
  unfolding ago
  joined-sound = ap (heard_all silence) j.starts

  pub joined_old : ago r (length kept) ≡ heard_all silence kept
  unfolding ago
  joined_old =
      ap (heard_all silence)
      (sym (take-take (length kept) (length kept + length new) r (omega arith)) ∙ ap (take (length kept)) j.starts ∙ take_at kept new (length kept) refl)

  pub joined-new : take (length new) (drop (length kept) r) ≡ new
  joined-new = take-drop (length kept) (length new) r ∙ ap (drop (length kept)) j.starts ∙ drop_at kept new (length kept) refl

  pub joined-keeping : take (length kept) (drop (length new) r) ≡ keeping kept new
  joined-keeping =
      let e : length new + length kept ≡ length kept + length new = omega arith in
      take-drop (length new) (length kept) r ∙ ap (λ (m : ℕ). drop (length new) (take m r)) e ∙ ap (drop (length new)) j.starts

-- ---- laid into a store of zeros
pub zeros_fit : (n : ℕ) → Samples (replicate n (pos 0))
zeros_fit n = record { each = λ i. zero-at n i }
  where
    zero-at : (n i : ℕ) → SFits w16 (value_at (replicate n (pos 0)) i)
    zero-at zero i = record { sfits = omega arith }
    zero-at (suc n) zero = record { sfits = omega arith }
    zero-at (suc n) (suc i) = zero-at n i

laid-starts : (z xs : List ℤ) (from : ℕ) → from ≤ length z → take (from + length xs) (laid z from xs) ≡ take from z ++ xs
laid-starts z xs from h =
    take_at (take from z ++ xs) (drop (from + length xs) z) (from + length xs)
    (length-append (take from z) xs ∙ ap (λ (n : ℕ). n + length xs) (length-take-le from z h))

laid-length : (z xs : List ℤ) (from : ℕ) → from + length xs ≤ length z → length (laid z from xs) ≡ length z
laid-length z xs from h =
    omega (arith, length-append (take from z ++ xs) (drop (from + length xs) z), length-append (take from z) xs, length-take-le from z (omega arith), length-drop (from + length xs) z)

pub joined-one : {z kept r : List ℤ} {n : ℕ} → length z ≡ n → length kept ≤ n → Samples z → r ≡ laid z 0 kept → (Samples z → Samples r) → Joined kept [] n r
joined-one {z} {kept} {r} {n} e h f p q =
    record {
      long = ap length p ∙ laid-length z kept 0 (omega (arith, zero-add (length kept))) ∙ e;
      samples = q f;
      starts =
          (λ i. take (add-zero (length kept) i) (p i))
          ∙ ap (λ (m : ℕ). take m (laid z 0 kept)) (sym (zero-add (length kept)))
          ∙ laid-starts z kept 0 (omega arith) ∙ sym (append-nil kept);
    }

pub joined-two : {kept new a r : List ℤ} {n : ℕ} (m : ℕ) → length kept ≡ m → m + length new ≤ n → Joined kept [] n a → r ≡ laid a m new → (Samples a → Samples r) → Joined kept new n r
joined-two {kept} {new} {a} {r} {n} m e h j p q =
    let k : take m a ≡ kept =
    ap (λ (i : ℕ). take i a) (sym (add-zero (length kept) ∙ e)) ∙ j.starts ∙ append-nil kept
    in
    record {
      long = ap length p ∙ laid-length a new m (omega (arith, j.long)) ∙ j.long;
      samples = q j.samples;
      starts = (λ i. take (e i + length new) (p i)) ∙ laid-starts a new m (omega (arith, j.long)) ∙ ap (λ (l : List ℤ). l ++ new) k;
    }
