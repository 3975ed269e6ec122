-- A turn that answers no line had room for an answer, so no line is left.
use Rattle.std.proofs.Common.{refl, ◌∙◌, arith}
use Rattle.std.proofs.lemmas.Result.{err_from_is_err_and}
use Rattle.daxfolin.specs.Laws.{still_empty, batch_bare, none-served, served-more, all-served}
use Rattle.daxfolin.proofs.serve.Goals as goal

pub loop-u-init : goal.loop-u-init
loop-u-init g c = record { served = none-served; same = refl; room = refl; store = refl }

pub loop-u-preserved : goal.loop-u-preserved
loop-u-preserved g c =
    let l = c.loop-u.invariant in
    let r = c.answer_lines-r in
    record { served = served-more l.served (batch_bare l.store r.auto.store r.ensures); same = l.same; room = r.auto.out ∙ l.room; store = still_empty l.store r.auto.store }

pub returns-then-r-eq0 : goal.returns-then-r-eq0
returns-then-r-eq0 g c =
    let l = c.loop-u.invariant in
    let r = c.answer_lines-r in
    all-served l.served (batch_bare l.store r.auto.store r.ensures) (omega (arith, c.requires, l.room)) c.if-r-eq0.true

pub returns-in_err-write_out : goal.returns-in_err-write_out
returns-in_err-write_out g c = let p = err_from_is_err_and c.from_residual.result c.from_residual.ensures.1 in rw p.1 c.loop-u.invariant.same
