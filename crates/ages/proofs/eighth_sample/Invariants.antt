-- `ages::eighth_sample` meets its contract: the loop adds the newest eight, and the shift rounds their sum by 8 down.
use Rattle.std.proofs.Common.{◌^◌}
use Rattle.whole.specs.Adding.{Summed}
use Rattle.ages.specs.Ages.{past}
use Rattle.ages.proofs.eighth_sample.Given as goal

abbrev pub invariant-loop-k : goal.invariant-loop-k
invariant-loop-k l = Summed (2 ^ 15) (past l.s) l.k l.sum
