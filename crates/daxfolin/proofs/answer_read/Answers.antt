-- What was read stands after what is held, all of it is served, and what is left is kept.
use Rattle.std.proofs.Common.{◌+◌, take, ap, length-take-le, arith}
use Rattle.std.proofs.lemmas.Result.{err_from_is_err_and}
use Rattle.daxfolin.specs.Laws.{kept-few, read-answered, as_before}
use Rattle.daxfolin.proofs.answer_read.Goals as goal

pub returns : goal.returns
returns g c = (kept-few c.keep.ensures, read-answered c.args.held c.args.read c.in_ok-at.ensures c.keep.ensures)

pub returns-in_err-at : goal.returns-in_err-at
returns-in_err-at g c =
    let a = c.args in
    let p = err_from_is_err_and c.from_residual.result c.from_residual.ensures.1 in
    rw p.1 (as_before (take a.held a.buf.now) a.buf.now c.in_err-at.ensures (ap (λ n. take n a.buf.now) (length-take-le a.held a.buf.now (omega (arith, c.requires)))))
