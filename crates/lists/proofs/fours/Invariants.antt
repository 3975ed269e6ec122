-- Each step of the loop passes four samples with the first one's note.
use Prim.Native.Nat.{◌-◌}
use lib.ListN.{length}
use Rattle.lists.specs.Folds.{Level}
use Rattle.lists.proofs.fours.Given as goal

abbrev pub invariant-loop-to : goal.invariant-loop-to
invariant-loop-to l = Level l.notes (length l.notes) l.from l.to

abbrev pub decreases-loop-to : goal.decreases-loop-to
decreases-loop-to l = length l.notes - l.to
