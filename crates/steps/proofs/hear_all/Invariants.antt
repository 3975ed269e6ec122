-- `steps::hear_all` meets its contract: after i turns the first i samples of the block have been heard, one after the other (`Going`).
use Rattle.steps.specs.Running.{tones}
use Rattle.steps.specs.Going.{Going}
use Rattle.steps.proofs.hear_all.Given as goal

abbrev pub invariant-loop-i : goal.invariant-loop-i
invariant-loop-i l = Going l.f l.s l.m l.initial.y (tones l.initial.periods l.initial.notes l.initial.rates) l.initial.q l.i l.y l.e l.h (tones l.periods l.notes l.rates) l.q
