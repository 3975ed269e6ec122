-- `tracking::floor_div` meets its contract: below 0 the number is flipped, divided and flipped back, and each step holds a number no larger than `a`.
use mathlib.Core.Path.{◌≡◌, ap, sym, ◌∙◌}
use Prim.Native.Nat.{ℕ, ◌≤◌, ◌/◌, ◌^◌}
use native.Mathlib.Nat.{lt_of_le_of_lt}
use lib.IntN.{ℤ, pos, negsuc, ◌-ℤ◌}
use lib.Signed.{mag, mag_shr, quot_z, ◌<ℤ◌, ◌≤ℤ◌}
use mir.Syntax.{w64}
use mir.Val.{SFits, to_z, of_z}
use mir.Facts.{to_z-of_z}
use Rattle.whole.specs.Words.{arg, num, lit, ok_of, lt_yes, lt_no}
use Rattle.whole.specs.Floor.{flip, flip-back, floor-neg, floor_pos}
use Rattle.whole.specs.Numbers.{floor_div}
use Rattle.tracking.proofs.floor_div.Goals.{Else-a-lt0, Then-a-lt0}
use Rattle.tracking.proofs.floor_div.Goals as goal

-- a step's number once it is held
read : {e z : ℤ} → e ≡ z → SFits w64 z → to_z w64 (of_z w64 e) ≡ z
read same f = to_z-of_z (ok_of same f) ∙ same

smaller : {a : ℤ} (d : ℕ) → SFits w64 a → SFits w64 (floor_div a d)
smaller {a} d f = record { sfits = lt_of_le_of_lt (mag_shr a d) f.sfits }

-- the steps as the code makes them
abbrev flipped : ℤ → ℤ
flipped a = negsuc 0 -ℤ to_z w64 (of_z w64 a)

abbrev divided : ℤ → ℕ → ℤ
divided a d = quot_z (to_z w64 (of_z w64 a)) (to_z w64 d)

module _ (a : ℤ) (d : ℕ) (f : SFits w64 a) (g : d ≤ 2 ^ 62) where
  by-d : to_z w64 d ≡ pos d
  by-d = (num {w = w64} {n = 2 ^ 62} {z = pos d} g tt).reads

  over-is : pos 0 ≤ℤ a → divided a d ≡ floor_div a d
  over-is h = (λ i. quot_z (to_z-of_z f i) (by-d i)) ∙ floor_pos a d h

  module _ (h : a <ℤ pos 0) where
    up : SFits w64 (pos (mag a))
    up = record { sfits = f.sfits }

    up_is : flipped a ≡ pos (mag a)
    up_is = ap (λ (v : ℤ). negsuc 0 -ℤ v) (to_z-of_z f) ∙ flip a h

    by-is : divided (flipped a) d ≡ pos (mag a / d)
    by-is = λ i. quot_z (read up_is up i) (by-d i)

    back_is : flipped (divided (flipped a) d) ≡ floor_div a d
    back_is = ap (λ (v : ℤ). negsuc 0 -ℤ v) (read by-is (smaller d up)) ∙ flip-back (mag a / d) ∙ sym (floor-neg a d h)

under : (c : Then-a-lt0) → c.args.a <ℤ pos 0
under c = lt_yes (arg c.ranges.a) (lit w64 0) c.if-a-lt0.true

over : (c : Else-a-lt0) → divided c.args.a c.args.d ≡ floor_div c.args.a c.args.d
over c = over-is _ _ c.ranges.a c.requires.1 (lt_no (arg c.ranges.a) (lit w64 0) c.if-a-lt0.false)

pub overflow_sub-result : goal.overflow_sub-result
overflow_sub-result c =
    let f = c.ranges.a in
    let g = c.requires.1 in
    ok_of (up_is _ _ f g (under (goal.at.overflow_sub-result c).Then-a-lt0)) (up _ _ f g (under (goal.at.overflow_sub-result c).Then-a-lt0))

pub nonzero_div-result : goal.nonzero_div-result
nonzero_div-result c =
    let f = c.ranges.a in
    let g = c.requires.1 in
    (c.requires.0, ok_of (by-is _ _ f g (under (goal.at.nonzero_div-result c).Then-a-lt0)) (smaller c.args.d (up _ _ f g (under (goal.at.nonzero_div-result c).Then-a-lt0))))

pub overflow_sub-result-then-a-lt0 : goal.overflow_sub-result-then-a-lt0
overflow_sub-result-then-a-lt0 c = ok_of (back_is _ _ c.ranges.a c.requires.1 (under (goal.at.overflow_sub-result-then-a-lt0 c).Then-a-lt0)) (smaller c.args.d c.ranges.a)

pub nonzero_div-result-else-a-lt0 : goal.nonzero_div-result-else-a-lt0
nonzero_div-result-else-a-lt0 c = (c.requires.0, ok_of (over (goal.at.nonzero_div-result-else-a-lt0 c).Else-a-lt0) (smaller c.args.d c.ranges.a))

pub returns-then-a-lt0 : goal.returns-then-a-lt0
returns-then-a-lt0 c = read (back_is _ _ c.ranges.a c.requires.1 (under (goal.at.returns-then-a-lt0 c).Then-a-lt0)) (smaller c.args.d c.ranges.a)

pub returns-else-a-lt0 : goal.returns-else-a-lt0
returns-else-a-lt0 c = read (over (goal.at.returns-else-a-lt0 c).Else-a-lt0) (smaller c.args.d c.ranges.a)
