-- `sums::direct_all` meets its contract: a sweep over the lags, with E carried on from lag to lag by two squares.
use Rattle.std.proofs.Common.{◌≡◌, ◌+◌}
use Rattle.rules.specs.Rules.{E}
use Rattle.ages.specs.Ages.{past}
use Rattle.sums.specs.Sweep.{Sweep}
use Rattle.sums.proofs.direct_all.Given as goal

abbrev pub invariant-loop-i : goal.invariant-loop-i
invariant-loop-i l = (l.sum ≡ E (past l.s) (l.low + l.i)) × Sweep (past l.s) l.low l.initial.e l.initial.h l.i l.e l.h
