-- `sums::eighths_right` meets its contract: where the newest squares add up to 0, the sums are right exactly where all are 0 (`quiet-right`, `right-quiet`).
use mathlib.Core.Path.{◌≡◌, sym, ◌∙◌}
use Prim.Native.Nat.{◌+◌, ◌*◌}
use native.Mathlib.Omega.{arith}
use lib.ListN.{length}
use Rattle.whole.specs.Tests.{decides_as}
use Rattle.ages.specs.Ages.{past}
use Rattle.sums.specs.Kept.{squares}
use Rattle.sums.specs.Silence.{quiet-right, right-quiet}
use Rattle.sums.proofs.eighths_right.Goals as goal

pub returns-then-energy-eq0 : goal.returns-then-energy-eq0
returns-then-energy-eq0 c =
    let a = c.args in
    let e = a.e.now in
    let h = a.h.now in
    let x = past a.s.now in
    let n = 2 * (2 + length e) in
    let silent : squares x n ≡ 0 = sym c.energy.ensures ∙ c.if-energy-eq0.true in
    decides_as c.none.ensures (quiet-right x n silent 2 e h (omega arith) c.requires.1) (right-quiet x n silent 2 e h (omega arith))
