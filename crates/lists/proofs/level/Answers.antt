use native.Mathlib.Omega.{arith}
use Rattle.lists.proofs.Folds.{level-more}
use Rattle.lists.proofs.level.Goals as goal

pub loop-to-preserved : goal.loop-to-preserved
loop-to-preserved c = level-more c.args.notes.now _ _ (omega arith) _ c.loop-to.invariant c.loop-to-test.true c.if-notes-to.false
