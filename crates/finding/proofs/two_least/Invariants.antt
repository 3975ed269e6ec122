-- `finding::two_least` meets its contract: the two least lows above the lag l are held, and a lag passed over is none (`leasts_passed`).
use Prim.Native.Nat.{◌≤◌}
use Rattle.rules.specs.Rules.{Sound}
use Rattle.finding.specs.Finding.{Measured}
use Rattle.finding.specs.Scan.{InOrder, Leasts}
use Rattle.finding.proofs.two_least.Given as goal

abbrev pub invariant-loop-l : goal.invariant-loop-l
invariant-loop-l l = (2 ≤ l.l) × (l.l ≤ 109) × InOrder l.l l.t × ((y : Sound) → Measured y l.d l.e → Leasts l.g y l.l l.t)

abbrev pub decreases-loop-l : goal.decreases-loop-l
decreases-loop-l l = l.l
