-- `tracking::lost` meets its contract: either test of the lags says that they lie more than 3 apart, and otherwise passing decides.
use mathlib.Core.Path.{ap, sym, ◌∙◌}
use mathlib.Core.Bool.{not, and-true, and-false}
use Prim.Native.Nat.{◌+◌, ◌≤◌, ◌<◌}
use native.Mathlib.Omega.{arith}
use borrow.Author.Tests.{le-leb, lt-leb, lt-ltb}
use Rattle.std.proofs.Common.{ltb-true, ltb-false}
use Rattle.whole.specs.Tests.{yes_and_no}
use Rattle.rules.specs.Rules.{away, is_lost}
use Rattle.tracking.proofs.lost.Goals.{then-lag-last, else-lag-last}
use Rattle.tracking.proofs.lost.Goals as goal

pub returns-then-last-lag : goal.returns-then-last-lag
unfolding is_lost
returns-then-last-lag c x p q =
    let a = c.args in
    let far : 3 < away a.lag a.last =
    elim c.if-lag-last.branch [
      | then-lag-last w ↦ omega (arith, w.if-lag-last.true)
      | else-lag-last w ↦ omega (arith, ltb-true (a.lag + 3) a.last (sym w.value-is ∙ c.if-last-lag.true))
    ]
    in
    rw (lt-leb (away a.lag a.last) 3 far, and-false) c.if-last-lag.true

pub returns-else-last-lag : goal.returns-else-last-lag
unfolding is_lost
returns-else-last-lag c x p q =
    let a = c.args in
    let near : away a.lag a.last ≤ 3 =
    elim c.if-lag-last.branch [
      | then-lag-last w ↦ absurd (yes_and_no (w.value-is ∙ lt-ltb _ _ w.if-lag-last.true) c.if-last-lag.false)
      | else-lag-last w ↦ omega (arith, w.if-lag-last.false, ltb-false (a.lag + 3) a.last (sym w.value-is ∙ c.if-last-lag.false))
    ]
    in
    rw (le-leb (away a.lag a.last) 3 near, and-true) (ap not (c.passing.ensures x p q))
