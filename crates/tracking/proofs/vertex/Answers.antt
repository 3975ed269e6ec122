-- `tracking::vertex` meets its contract: the numbers divided are those of `offset`, small enough for 64 bits, and `offset-within` gives the range.
use mathlib.Core.Path.{◌≡◌, ◌∙◌}
use Prim.Native.Nat.{ℕ, ◌+◌, ◌*◌, ◌^◌, ◌≤◌}
use lib.IntN.{pos, ◌+ℤ◌, ◌-ℤ◌, ◌*ℤ◌}
use mir.Syntax.{w64}
use mir.Val.{to_z, of_z}
use mir.Facts.{to_z-of_z}
use Rattle.whole.specs.Words.{Bits, num, lit, add, sub, mul}
use Rattle.whole.specs.Numbers.{floor_div}
use Rattle.rules.specs.Rules.{offset}
use Rattle.rules.proofs.Periods.{offset-within}
use Rattle.tracking.proofs.vertex.Goals.{After-bend-m}
use Rattle.tracking.proofs.vertex.Goals as goal

one : {d : ℕ} → d ≤ 2 ^ 42 → Bits w64 (2 ^ 42) d (pos d)
one {d} h = num {n = 2 ^ 42} {z = pos d} h tt

-- D1 - D3, and what is made of it
module _ {a b : ℕ} (p : a ≤ 2 ^ 42) (q : b ≤ 2 ^ 42) where
  apart : Bits w64 (2 ^ 42 + 2 ^ 42) (of_z w64 (to_z w64 a -ℤ to_z w64 b)) (pos a -ℤ pos b)
  apart = sub (one p) (one q) tt

  times : Bits w64 (128 * (2 ^ 42 + 2 ^ 42)) (of_z w64 (pos 128 *ℤ to_z w64 (of_z w64 (to_z w64 a -ℤ to_z w64 b)))) (pos 128 *ℤ (pos a -ℤ pos b))
  times = mul (lit w64 128) apart tt

  twice : Bits w64 (2 * (128 * (2 ^ 42 + 2 ^ 42))) (of_z w64 (pos 2 *ℤ to_z w64 (of_z w64 (pos 128 *ℤ to_z w64 (of_z w64 (to_z w64 a -ℤ to_z w64 b)))))) (pos 2 *ℤ (pos 128 *ℤ (pos a -ℤ pos b)))
  twice = mul (lit w64 2) times tt

-- D1 - 2 D2 + D3
under : (c : After-bend-m) → Bits w64 (2 ^ 43) c.bend-m.result (pos c.bend-m.result)
under c = num {n = 2 ^ 43} {z = pos c.bend-m.result} c.bend-m.ensures.2 tt

pub returns : goal.returns
unfolding offset
returns c =
    let a = c.args in
    let p = c.requires in
    let m = c.bend-m.ensures.0 in
    let t = (add (twice p.2 p.3) (under (goal.at.returns c).After-bend-m) tt).reads in
    let e : to_z w64 (of_z w64 c.floor_div.result) ≡ offset a.d1 a.d2 a.d3 =
    to_z-of_z {w = w64} (record { sfits = c.floor_div.type_inv })
    ∙ c.floor_div.ensures
    ∙ (λ i. floor_div (t i) (2 * c.bend-m.result))
    ∙ (λ i. floor_div (pos 2 *ℤ (pos 128 *ℤ (pos a.d1 -ℤ pos a.d3)) +ℤ pos (m i)) (2 * m i))
    in
    (e, rw e (offset-within a.d1 a.d2 a.d3 p.0 p.1))
