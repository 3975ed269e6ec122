-- `sums::all_right` meets its contract: the lags passed are right, and a lag that is not right answers no; E is carried on by two squares.
use Rattle.std.proofs.Common.{◌≡◌, ℕ, ◌+◌, ◌<◌}
use Rattle.rules.specs.Rules.{E}
use Rattle.ages.specs.Ages.{past}
use Rattle.sums.specs.Sweep.{RightIn}
use Rattle.sums.proofs.all_right.Given as goal

abbrev pub invariant-loop-i : goal.invariant-loop-i
invariant-loop-i l = (l.sum ≡ E (past l.s) (l.low + l.i)) × ((j : ℕ) → j < l.i → RightIn (past l.s) l.low l.e l.h j)
