-- `finding::next_down` meets its contract: every lag passed so far has too great a D.
use Rattle.std.proofs.Common.{◌-◌}
use Rattle.finding.specs.Scan.{Passed}
use Rattle.finding.proofs.next_down.Given as goal

abbrev pub invariant-loop-k : goal.invariant-loop-k
invariant-loop-k l = Passed l.d l.most (l.k - 1) l.l
