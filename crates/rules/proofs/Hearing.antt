-- What is heard, one sample after the other: the sound after a list of samples.
use Rattle.std.specs.Prelude.{◌≡◌, refl, List, [], ◌∷◌, ◌++◌, ℤ}
use Rattle.std.proofs.Common.{arith, SFits}
use Prim.Native.Nat.{ℕ, zero, suc, ◌^◌}
use Rattle.std.specs.Int.{w16}
use Rattle.whole.specs.Sums.{sum-mag}
use Rattle.whole.specs.Numbers.{sum}
use Rattle.whole.specs.Floor.{floor-mag}
use Rattle.rules.specs.Rules.{Sound, heard, heard_all, eighth_sample}

pub heard_all-append : (x : Sound) (xs ys : List ℤ) → heard_all x (xs ++ ys) ≡ heard_all (heard_all x xs) ys
unfolding heard_all
heard_all-append x [] ys = refl
heard_all-append x (a ∷ xs) ys = heard_all-append (heard a x) xs ys

pub heard_all-more : (x : Sound) (xs : List ℤ) (b : ℤ) → heard_all x (xs ++ (b ∷ [])) ≡ heard b (heard_all x xs)
unfolding heard_all
heard_all-more x xs b = heard_all-append x xs (b ∷ [])

-- what holds of each sample of a sound and of a list holds of each sample heard
module _ (P : ℤ → Type 0) where
  pub all-heard : {x : Sound} {new : ℤ} → ((k : ℕ) → P (x k)) → P new → (k : ℕ) → P (heard new x k)
  unfolding heard
  all-heard p q zero = q
  all-heard p q (suc k) = p k

-- the eighth-rate sample of 16-bit samples has 16 bits
pub eighth-fits : (x : Sound) → ((k : ℕ) → SFits w16 (x k)) → SFits w16 (eighth_sample x)
unfolding eighth_sample
eighth-fits x f =
    record { sfits = floor-mag (sum x 8) (2 ^ 15) 8 (omega arith) (sum-mag (2 ^ 15) x (λ k. (f k).sfits) 7) }
