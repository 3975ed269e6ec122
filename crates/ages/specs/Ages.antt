-- Samples, oldest first: which of them is how far back.
use Rattle.std.specs.Prelude.{◌≡◌, refl, List, [], ◌∷◌, ℕ, zero, suc, ◌+◌, ◌-◌, ◌≤◌, ◌<◌, ℤ, pos, nat_abs, length, take, set}
use Rattle.std.proofs.Common.{sym, ◌∙◌, subst, le_refl, arith, add-one, take-suc, take-suc-set, take_all, get_or-set_same, get_or-set_other, SFits, to_z, of_z}
use Rattle.std.proofs.Math.Path.{ap}
use Rattle.std.proofs.Math.Decide.{ℕ_discrete}
use Rattle.std.proofs.lemmas.List.{take-set-le}
use Rattle.std.specs.Int.{Width, w16}
use Rattle.whole.specs.Words.{Bits, arg≤, is}
use Rattle.rules.specs.Rules.{Sound, silence, heard, heard_all, older}
use Rattle.rules.proofs.Hearing.{heard_all-more, all-heard}
use Rattle.rules.proofs.Energies.{older-heard}
use Rattle.rules.specs.Facts.{value_at}

-- the sound of some samples, the newest last
unfoldable pub past : List ℤ → Sound
past s = heard_all silence s

-- the sound of the first m samples of a store
unfoldable pub ago : List ℤ → ℕ → Sound
ago s m = heard_all silence (take m s)

-- every sample fits 16 bits
pub record Samples (s : List ℤ) : Type 0 where
  pub each : (i : ℕ) → SFits w16 (value_at s i)

zero-fits : SFits w16 (pos 0)
zero-fits = record { sfits = omega arith }

-- the same, of these samples alone
pub past-take : (s : List ℤ) (m : ℕ) → past (take m s) ≡ ago s m
unfolding past ago
past-take s m = refl

pub past-all : (s : List ℤ) → past s ≡ ago s (length s)
unfolding past ago
past-all s = ap (heard_all silence) (sym (take_all (length s) s (le_refl (length s))))

-- ---- one sample more
module _ (s : List ℤ) (m : ℕ) (h : m < length s) where
  pub ago-next : ago s (m + 1) ≡ heard (value_at s m) (ago s m)
  unfolding ago
  ago-next =
      ap (λ (n : ℕ). heard_all silence (take n s)) (add-one m)
      ∙ ap (heard_all silence) (take-suc s m (pos 0) h)
      ∙ heard_all-more silence (take m s) (value_at s m)

  pub ago-older : older (ago s (m + 1)) ≡ ago s m
  ago-older = ap older ago-next ∙ older-heard (value_at s m) (ago s m)

  -- a sample put at the next place is heard
  pub ago-put : (v : ℤ) → ago (set s m v) (m + 1) ≡ heard v (ago s m)
  unfolding ago
  ago-put v =
      ap (λ (n : ℕ). heard_all silence (take n (set s m v))) (add-one m)
      ∙ ap (heard_all silence) (take-suc-set s m v h)
      ∙ heard_all-more silence (take m s) v

-- a sample put at a place: what is heard before it stays, and every sample still fits
module _ (s : List ℤ) (p : ℕ) (v : ℤ) where
  pub ago-before : ago (set s p v) p ≡ ago s p
  unfolding ago
  ago-before = ap (heard_all silence) (take-set-le p s p v (le_refl p))

  pub samples-put : SFits w16 v → p < length s → Samples s → Samples (set s p v)
  samples-put f l r = record { each = λ i. by_place i (ℕ_discrete i p) }
    where
      by_place : (i : ℕ) → Dec (i ≡ p) → SFits w16 (value_at (set s p v) i)
      by_place i (yes e) = subst (λ (k : ℕ). SFits w16 (value_at (set s p v) k)) (sym e) (rw (get_or-set_same s p v (pos 0) l) f)
      by_place i (no n) = rw (get_or-set_other s p i v (pos 0) n) (r.each i)

-- ---- the first samples of samples
tail_fits : {a : ℤ} {s : List ℤ} → Samples (a ∷ s) → Samples s
tail_fits p = record { each = λ i. p.each (suc i) }

first_fits : {a : ℤ} {s : List ℤ} → SFits w16 a → Samples s → Samples (a ∷ s)
first_fits {a} {s} f p = record { each = λ i. at i }
  where
    at : (i : ℕ) → SFits w16 (value_at (a ∷ s) i)
    at zero = f
    at (suc i) = p.each i

pub samples-take : (m : ℕ) (s : List ℤ) → Samples s → Samples (take m s)
samples-take zero s p = record { each = λ i. zero-fits }
samples-take (suc m) [] p = p
samples-take (suc m) (x ∷ s) p = first_fits (p.each 0) (samples-take m s (tail_fits p))

-- ---- the sample of k samples ago stands k places before the newest
pub ago-at : (s : List ℤ) (m k : ℕ) → m ≤ length s → k < m → ago s m k ≡ value_at s (m - 1 - k)
unfolding heard
ago-at s zero k h l = absurd (omega arith)
ago-at s (suc m) zero h l =
    let e : m ≡ suc m - 1 - 0 = omega arith in
    ap (λ (n : ℕ). ago s n 0) (sym (add-one m)) ∙ ap (λ (x : Sound). x 0) (ago-next s m h) ∙ ap (value_at s) e
ago-at s (suc m) (suc k) h l =
    let e : m - 1 - k ≡ suc m - 1 - suc k = omega arith in
    ap (λ (n : ℕ). ago s n (suc k)) (sym (add-one m)) ∙ ap (λ (x : Sound). x (suc k)) (ago-next s m h) ∙ ago-at s m k (omega arith) (omega arith) ∙ ap (value_at s) e

pub past_at : (s : List ℤ) (k : ℕ) → k < length s → past s k ≡ value_at s (length s - 1 - k)
past_at s k l = ap (λ (x : Sound). x k) (past-all s) ∙ ago-at s (length s) k (le_refl (length s)) l

-- ---- a number in a wider local, and what fits 16 bits
pub from_bits : {w w' : Width} {A b : ℕ} {z r : ℤ} → Bits w A b z → r ≡ to_z w b → SFits w' r → Bits w' A (of_z w' r) z
from_bits p e f = is (e ∙ p.reads) (arg≤ (omega (arith, ap nat_abs (e ∙ p.reads), p.size.within)) f)

silence-fits : (k : ℕ) → SFits w16 (silence k)
unfolding silence
silence-fits k = zero-fits

all_fit : (m : ℕ) (s : List ℤ) (x : Sound) → ((k : ℕ) → SFits w16 (x k)) → Samples s → (k : ℕ) → SFits w16 (heard_all x (take m s) k)
unfolding heard_all
all_fit zero s x f p = f
all_fit (suc m) [] x f p = f
all_fit (suc m) (a ∷ s) x f p = all_fit m s (heard a x) (all-heard (SFits w16) f (p.each 0)) (tail_fits p)

pub ago-fits : {s : List ℤ} → Samples s → (m k : ℕ) → SFits w16 (ago s m k)
unfolding ago
ago-fits {s} p m k = all_fit m s silence silence-fits p k

pub past-fits : {s : List ℤ} → Samples s → (k : ℕ) → SFits w16 (past s k)
past-fits {s} p k = rw (past-all s) (ago-fits p (length s) k)
