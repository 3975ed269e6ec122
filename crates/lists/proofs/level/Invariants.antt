-- Each sample that the loop passed has the first one's note.
use lib.ListN.{length}
use Rattle.lists.specs.Folds.{Level}
use Rattle.lists.proofs.level.Given as goal

abbrev pub invariant-loop-to : goal.invariant-loop-to
invariant-loop-to l = Level l.notes (length l.notes) l.from l.to
