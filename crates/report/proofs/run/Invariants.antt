-- What was read so far is kept.
use Rattle.report.specs.Working.{Working}
use Rattle.report.proofs.run.Given as goal

abbrev pub invariant-loop : goal.invariant-loop
invariant-loop g l = Working l.r l.line l.out
