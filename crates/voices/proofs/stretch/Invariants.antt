-- Every sample of the stretch has the same period and note, so it is sung at the same rate; the first has them, so one at least is sung.
use Rattle.voices.specs.Singing.{SangTo}
use Rattle.voices.proofs.stretch.Given as goal

abbrev pub invariant-loop-i : goal.invariant-loop-i
invariant-loop-i l = SangTo l.v.rate l.v.period l.v.note l.v.behind l.periods l.notes l.s l.m l.from l.initial.out l.out l.i l.behind
