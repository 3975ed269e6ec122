-- The digits are written from the last on.
use Rattle.std.proofs.Common.{◌-◌}
use Rattle.text.specs.Spelling.{Spelling}
use Rattle.text.proofs.spell.Given as goal

abbrev pub invariant-loop-i : goal.invariant-loop-i
invariant-loop-i l = Spelling l.initial.out l.at l.n l.k l.out l.rest (l.i - l.at)
