-- `lines::answer_lines` meets its contract: each line's answer is put after those before it.
use Rattle.std.proofs.Common.{◌<◌, length, arith, ◌≤◌, ◌-◌}
use Rattle.lines.specs.Batch.{none-answered, batch_more}
use Rattle.lines.proofs.answer_lines.Goals as goal

pub loop-at-init : goal.loop-at-init
loop-at-init c = (omega arith, none-answered)

pub loop-at-preserved : goal.loop-at-preserved
loop-at-preserved c =
    let b = c.loop-at.invariant.1 in
    let f = c.first-end.ensures in
    let l : c.first-end.result < length c.args.input.now = omega (arith, f.within) in
    let room : 4096 ≤ length c.loop-at.out - c.loop-at.length = omega arith in
    (omega arith, batch_more b f l room c.answer_line-reply.ensures.answered c.answer_line-reply.auto.out)
