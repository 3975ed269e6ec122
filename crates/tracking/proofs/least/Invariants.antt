-- `tracking::least` meets its contract: of the places passed so far, `at` is the first of the least.
use Rattle.rules.specs.Choosing.{First}
use Rattle.tracking.specs.Tracking.{place}
use Rattle.tracking.proofs.least.Given as goal

abbrev pub invariant-loop-j : goal.invariant-loop-j
invariant-loop-j l = First (place l.d) l.j l.at
