-- `sums::pair` meets its contract: one product less 1 and another are together shorter than 2^31.
use mathlib.Core.Path.{ap, ◌∙◌}
use Prim.Native.Nat.{◌-◌, ◌^◌}
use native.Mathlib.Omega.{arith}
use lib.IntN.{pos, nat_abs, ◌-ℤ◌, ◌*ℤ◌}
use mir.Syntax.{w32}
use mir.Val.{of_z}
use mir.Facts.{to_z-of_z}
use Rattle.whole.specs.Words.{Bits, arg≤, add, is}
use Rattle.sums.proofs.pair.Goals.{After-product}
use Rattle.sums.proofs.pair.Goals as goal

-- the two, as the callees ensure them
module _ (c : After-product) where
  one : Bits w32 (2 ^ 30 - 1) (of_z w32 c.product_less.result) (c.args.a *ℤ c.args.b -ℤ pos 1)
  one =
      is (c.product_less.ensures.0 ∙ (λ i. to_z-of_z c.ranges.a i *ℤ to_z-of_z c.ranges.b i -ℤ pos 1))
      (arg≤ (omega (arith, c.product_less.ensures.1)) (record { sfits = c.product_less.type_inv }))

  other : Bits w32 (2 ^ 30) (of_z w32 c.product.result) (c.args.c *ℤ c.args.d)
  other = is (c.product.ensures.0 ∙ (λ i. to_z-of_z c.ranges.c i *ℤ to_z-of_z c.ranges.d i)) (arg≤ c.product.ensures.1 (record { sfits = c.product.type_inv }))

pub returns : goal.returns
returns c =
    let both = add (one (goal.at.returns c).After-product) (other (goal.at.returns c).After-product) tt in
    (both.reads, omega (arith, ap nat_abs both.reads, both.size.within))
