-- The bytes before this one have come.
use Rattle.reporting.specs.Steps.{held_in}
use Rattle.reporting.specs.Going.{Going}
use Rattle.reporting.proofs.Reporting.read_on.Given as goal

abbrev pub invariant-loop-b : goal.invariant-loop-b
invariant-loop-b l = Going l.input l.b-index (record { held = held_in l.initial.line; out = l.initial.out; report = l.initial.self }) (record { held = held_in l.line; out = l.out; report = l.self })
