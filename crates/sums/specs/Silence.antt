-- In silence every sum is 0: where the squares of the newest samples add up to 0, each of these samples is 0.
use Rattle.std.specs.Prelude.{◌≡◌, refl, List, ℕ, ◌+◌, ◌*◌, ◌≤◌, ◌<◌, ℤ, ◌*ℤ◌, length}
use Rattle.std.proofs.Common.{sym, ◌∙◌}
use Rattle.std.proofs.Math.Path.{ap}
use native.Mathlib.Omega.{arith}
use Rattle.std.proofs.Math.IntN.{pos}
use Rattle.whole.specs.Bounds.{nat_abs_mul, nat_abs-zero, square_zero}
use Rattle.whole.specs.Numbers.{sum}
use Rattle.whole.specs.Sums.{addsℤ, fold-below, sum-within, total-term, total-grows}
use Rattle.rules.specs.Rules.{Sound, sq, E, H}
use Rattle.rules.specs.Facts.{Right}
use Rattle.sums.specs.Kept.{squares, Zeros}

zero-times : (z : ℤ) → pos 0 *ℤ z ≡ pos 0
zero-times z = nat_abs-zero (pos 0 *ℤ z) (nat_abs_mul (pos 0) z ∙ omega arith)

module _ (x : Sound) (n : ℕ) (silent : squares x n ≡ 0) where
  -- a sample of them
  quiet : (k : ℕ) → k < n → x k ≡ pos 0
  quiet k h = square_zero (x k) (omega (arith, total-term (λ (k : ℕ). sq (x k)) n k h))

  -- the sums at a lag that they reach
  pub quiet-energy : (L : ℕ) → 2 * L ≤ n → E x L ≡ 0
  unfolding E
  quiet-energy L h = omega (arith, total-grows (λ (k : ℕ). sq (x k)) {m = 2 * L} {n = n} h)

  pub quiet-correlation : (L : ℕ) → 2 * L ≤ n → H x L ≡ pos 0
  unfolding H
  quiet-correlation L h =
      fold-below addsℤ (λ (k : ℕ). x k *ℤ x (k + L)) (λ (k : ℕ). pos 0) L (λ k l. ap (λ (z : ℤ). z *ℤ x (k + L)) (quiet k (omega arith)) ∙ zero-times (x (k + L)))
      ∙ nat_abs-zero (sum (λ (k : ℕ). pos 0) L) (omega (arith, (sum-within 0 (λ (k : ℕ). pos 0) (λ k. record { within = omega arith }) L).within))

  -- so they are right where all are 0
  pub quiet-right : (low : ℕ) (e : List ℕ) (h : List ℤ) → 2 * (low + length e) ≤ n → length h ≡ length e → Zeros e h → Right x low (length e) e h
  quiet-right low e h few same z =
      record {
        energies = refl;
        correlations = same;
        energy = λ j l. (z j l).0 ∙ sym (quiet-energy (low + j) (omega arith));
        correlation = λ j l. (z j l).1 ∙ sym (quiet-correlation (low + j) (omega arith));
      }

  pub right-quiet : (low : ℕ) (e : List ℕ) (h : List ℤ) → 2 * (low + length e) ≤ n → Right x low (length e) e h → Zeros e h
  right-quiet low e h few r j l = (r.energy j l ∙ quiet-energy (low + j) (omega arith), r.correlation j l ∙ quiet-correlation (low + j) (omega arith))
