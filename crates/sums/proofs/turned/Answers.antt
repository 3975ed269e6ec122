-- `sums::turned` meets its contract: y (x - z) is x y - y z, and each step's size is below 2^63.
use mathlib.Core.Path.{◌≡◌, refl, ◌∙◌}
use mathlib.Core.List.{[], ◌∷◌}
use Prim.Native.Nat.{◌^◌}
use lib.IntN.{ℤ}
use mir.Syntax.{w16, w64}
use mir.Val.{SFits, to_z, of_z}
use Rattle.whole.specs.Words.{Bits, arg, arg≤, add, add_ok, sub, mul, mul_ok}
use Rattle.whole.specs.Ring.{var, ◌⊕◌, ◌⊖◌, ◌⊗◌, solve}
use Rattle.ages.specs.Ages.{from_bits}
use Rattle.sums.proofs.turned.Goals as goal

long : {z r : ℤ} → SFits w16 z → r ≡ to_z w16 (of_z w16 z) → SFits w64 r → Bits w64 (2 ^ 15) (of_z w64 r) z
long f e g = from_bits (arg f) e g

pub overflow_mul-result : goal.overflow_mul-result
overflow_mul-result c =
    let x = long c.ranges.x c.from-2.ensures (record { sfits = c.from-2.type_inv }) in
    let y = long c.ranges.y c.from.ensures (record { sfits = c.from.type_inv }) in
    let z = long c.ranges.z c.from-3.ensures (record { sfits = c.from-3.type_inv }) in
    mul_ok y (sub x z tt) tt

pub overflow_add-result : goal.overflow_add-result
overflow_add-result c =
    let x = long c.ranges.x c.from-2.ensures (record { sfits = c.from-2.type_inv }) in
    let y = long c.ranges.y c.from.ensures (record { sfits = c.from.type_inv }) in
    let z = long c.ranges.z c.from-3.ensures (record { sfits = c.from-3.type_inv }) in
    add_ok (arg≤ c.requires c.ranges.h) (mul y (sub x z tt) tt) tt

pub returns : goal.returns
returns c =
    let a = c.args in
    let x = long c.ranges.x c.from-2.ensures (record { sfits = c.from-2.type_inv }) in
    let y = long c.ranges.y c.from.ensures (record { sfits = c.from.type_inv }) in
    let z = long c.ranges.z c.from-3.ensures (record { sfits = c.from-3.type_inv }) in
    (add {w = w64} (arg≤ c.requires c.ranges.h) (mul y (sub x z tt) tt) tt).reads
    ∙ solve (a.h ∷ a.x ∷ a.y ∷ a.z ∷ []) (var 0 ⊕ var 2 ⊗ (var 1 ⊖ var 3)) (var 0 ⊕ var 1 ⊗ var 2 ⊖ var 2 ⊗ var 3) refl
