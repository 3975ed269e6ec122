-- Before each turn the tuner and the bytes held are what the reads so far leave.
use Rattle.std.proofs.Common.{◌≤◌, take}
use Rattle.daxfolin.specs.Turns.{Working}
use Rattle.daxfolin.proofs.run.Given as goal

abbrev pub invariant-loop : goal.invariant-loop
invariant-loop g l = (l.held ≤ 8193) × Working l.t (take l.held l.buf)
