use native.Mathlib.Omega.{arith}
use Rattle.lists.proofs.Folds.{level-one, level-four}
use Rattle.lists.proofs.fours.Goals as goal

pub loop-to-init : goal.loop-to-init
loop-to-init c = level-one c.args.notes.now _ _ (omega arith) c.requires

pub loop-to-preserved : goal.loop-to-preserved
loop-to-preserved c = level-four c.args.notes.now _ _ (omega arith) _ c.loop-to.invariant (omega arith) (c.four.ensures c.if-four.true)
