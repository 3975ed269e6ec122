-- What is read stands after what is held, which no read touches.
use Rattle.std.proofs.Common.{take, refl}
use Rattle.std.proofs.lemmas.Result.{err_from_is_err_and}
use Rattle.std.proofs.Math.Seq.{take-append_seam}
use Rattle.daxfolin.specs.Laws.{as_before}
use Rattle.daxfolin.proofs.one_turn.Goals as goal

pub returns-in_err-n : goal.returns-in_err-n
returns-in_err-n g c =
    let p = err_from_is_err_and c.from_residual.result c.from_residual.ensures.1 in
    rw p.1 (as_before (take c.args.held c.args.buf.now) _ refl (take-append_seam (take c.args.held c.args.buf.now) _))

pub returns-in-0 : goal.returns-in-0
returns-in-0 g c = as_before (take c.args.held c.args.buf.now) _ refl (take-append_seam (take c.args.held c.args.buf.now) _)
