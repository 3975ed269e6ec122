-- A line that begins a take leaves a tuner without samples, and what any other counts is added to the newest take.
use Rattle.std.proofs.Common.{arith, sym, subst}
use Rattle.reports.specs.Counting.{Within, most}
use Rattle.reports.proofs.Counting.{within_more}
use Rattle.reporting.specs.Counts.{On}
use Rattle.reporting.specs.Keeping.{keeps-room, line-said, begun-count, line-begun, line_on, line_went_on}
use Rattle.reporting.proofs.Reporting.report_line.Goals as goal

pub begin_take-requires : goal.begin_take-requires
begin_take-requires c =
    let r = c.answer_line-reply in
    let p = line-said r.auto.store (omega arith) r.ensures.answered r.ensures.begun in
    ((c.args.self.now.tuner, c.requires.0), c.requires.1, begun-count c.args.line.now p c.if-reply.true)

pub returns-then-reply : goal.returns-then-reply
returns-then-reply c takes k =
    let r = c.answer_line-reply in
    let p = line-said r.auto.store (omega arith) r.ensures.answered r.ensures.begun in
    line-begun c.args.line.now p c.if-reply.true c.begin_take.ensures.0 (c.begin_take.ensures.1 c.args.self.now.tuner takes k)

pub go_on-requires : goal.go_on-requires
go_on-requires c =
    let r = c.answer_line-reply in
    let p = line-said r.auto.store (omega arith) r.ensures.answered r.ensures.begun in
    let o = line_on c.args.line.now p c.if-reply.false in
    (λ h. (keeps-room c.requires.0.keeps h).now, subst (Within most) (sym c.counted.ensures) (within_more (omega (arith, o.few)) o.within))

pub returns-else-reply : goal.returns-else-reply
returns-else-reply c takes k =
    let r = c.answer_line-reply in
    let p = line-said r.auto.store (omega arith) r.ensures.answered r.ensures.begun in
    let e = c.if-reply.false in
    let g = c.go_on.ensures c.args.self.now.tuner in
    line_went_on c.args.line.now p e g.tuner (g.keeps _ takes _ (subst (On _ _ _) (sym c.counted.ensures) (line_on c.args.line.now p e)) k)
