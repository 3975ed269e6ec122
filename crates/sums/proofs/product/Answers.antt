-- `sums::product` meets its contract: the product of 16-bit numbers is at most 2^30 in size, which fits 32 bits.
use mathlib.Core.Path.{ap}
use native.Mathlib.Omega.{arith}
use lib.IntN.{nat_abs}
use mir.Syntax.{w32}
use Rattle.whole.specs.Words.{arg, mul}
use Rattle.ages.specs.Ages.{from_bits}
use Rattle.sums.proofs.product.Goals as goal

pub returns : goal.returns
returns c =
    let x = from_bits {w' = w32} (arg c.ranges.x) c.from.ensures (record { sfits = c.from.type_inv }) in
    let y = from_bits {w' = w32} (arg c.ranges.y) c.from-2.ensures (record { sfits = c.from-2.type_inv }) in
    let p = mul x y tt in
    (p.reads, omega (arith, ap nat_abs p.reads, p.size.within))
