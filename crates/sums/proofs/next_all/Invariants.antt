-- `sums::next_all` meets its contract: a sweep over the lags, each by `next` from what was kept there at entry.
use Rattle.ages.specs.Ages.{past}
use Rattle.sums.specs.Sweep.{Sweep}
use Rattle.sums.proofs.next_all.Given as goal

abbrev pub invariant-loop-i : goal.invariant-loop-i
invariant-loop-i l = Sweep (past l.s) l.low l.initial.e l.initial.h l.i l.e l.h
