-- `passing::distance` meets its contract: E - 2H is the D of some sound of 16-bit samples, so nothing overflows and it is not negative (`D-is`).
use mathlib.Core.Path.{◌≡◌, sym, ap, ◌∙◌, subst}
use Prim.Native.Nat.{ℕ, ◌+◌, ◌*◌, ◌^◌}
use native.Mathlib.Omega.{arith}
use lib.Dec.{T}
use lib.IntN.{ℤ, pos, nat_abs, ◌-ℤ◌, ◌*ℤ◌}
use lib.Signed.{non_neg}
use mir.Syntax.{w64}
use mir.Val.{Fits, to_z, of_z}
use Rattle.whole.specs.Words.{Bits, num, lit, sub, sub-ok, mul, mul_ok, fit}
use Rattle.rules.specs.Rules.{D}
use Rattle.rules.proofs.Distance.{D-is, D-within}
use Rattle.sums.specs.Sweep.{energy-small, correlation-held}
use Rattle.passing.specs.Distances.{One}
use Rattle.passing.proofs.distance.Goals as goal

module _ {e : ℕ} {h : ℤ} (o : One e h) where
  energy : Bits w64 (2 ^ 41) (of_z w64 (pos e)) (pos e)
  energy = num {z = pos e} (energy-small o.fits (omega (arith, o.upto)) o.right.energy) tt

  correlation : Bits w64 (2 ^ 40) (of_z w64 h) h
  correlation = correlation-held o.fits (omega (arith, o.upto)) o.right.correlation

  twice : Bits w64 (2 * 2 ^ 40) (of_z w64 (pos 2 *ℤ to_z w64 (of_z w64 h))) (pos 2 *ℤ h)
  twice = mul (lit w64 2) correlation tt

  whole : Bits w64 (2 ^ 41 + 2 * 2 ^ 40) (of_z w64 (to_z w64 e -ℤ to_z w64 (of_z w64 (pos 2 *ℤ to_z w64 (of_z w64 h))))) (pos e -ℤ pos 2 *ℤ h)
  whole = sub energy twice tt

  is-D : pos e -ℤ pos 2 *ℤ h ≡ pos (D o.sound o.lag)
  is-D = (λ i. pos (o.right.energy i) -ℤ pos 2 *ℤ o.right.correlation i) ∙ sym (D-is o.sound o.lag)

pub overflow_cast-result : goal.overflow_cast-result
overflow_cast-result c = fit (energy c.requires).size tt

pub overflow_mul-result : goal.overflow_mul-result
overflow_mul-result c = mul_ok (lit w64 2) (correlation c.requires) tt

pub overflow_sub-result : goal.overflow_sub-result
overflow_sub-result c = sub-ok (energy c.requires) (twice c.requires) tt

pub overflow_cast-result-2 : goal.overflow_cast-result-2
overflow_cast-result-2 c =
    subst (λ (z : ℤ). T (non_neg z) × Fits w64 (nat_abs z)) (sym ((whole c.requires).reads ∙ is-D c.requires))
    (tt, record { fits = omega (arith, c.requires.upto, D-within c.requires.sound c.requires.fits c.requires.lag) })

pub returns : goal.returns
unfolding D
returns c x L r = ap nat_abs (whole c.requires).reads ∙ (λ i. nat_abs (pos (r.energy i) -ℤ pos 2 *ℤ r.correlation i))
