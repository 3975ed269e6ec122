-- A turn more is a read more.
use Rattle.std.proofs.Common.{[], arith, sym, subst}
use Rattle.tuner.specs.declared.Tuner.{Tuner}
use Rattle.daxfolin.specs.Turns.{Working}
use Rattle.daxfolin.specs.Laws.{none_read, one_turn_more, still_working}
use Rattle.daxfolin.proofs.run.Goals as goal

pub loop-init : goal.loop-init
loop-init g c = (omega arith, subst (λ (t : Tuner). Working t []) (sym c.default-t.ensures) none_read)

pub loop-preserved : goal.loop-preserved
loop-preserved g c = let o = rw c.in-Ok-Some.field-0-is at c.in-Ok-Some.ensures in (o.1.0, one_turn_more c.loop.invariant.1 o.1.1)

pub finish-requires : goal.finish-requires
finish-requires g c =
    let o = rw c.in-Ok-None.field-0-is at c.in-Ok-None.ensures in
    (still_working c.loop.buf c.one_turn.new.buf c.loop.held (omega arith) c.loop.invariant.1 o, omega arith)
