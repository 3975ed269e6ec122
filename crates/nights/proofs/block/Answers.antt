-- The block is judged by its own length, since it has room, and then taken, given again or refused.
use Rattle.std.proofs.Common.{refl, arith}
use Rattle.answers.specs.Numbering.{judged_number}
use Rattle.tuner.specs.Tuners.{Verdict}
use Rattle.tuner.specs.Following.{four}
use Rattle.tuner.proofs.Verdicts.{verdict-fits, verdict-zero, left-fits, took_by}
use Rattle.nights.specs.Going.{judged-here}
use Rattle.nights.proofs.block.Goals.{After-judge-verdict}
use Rattle.nights.proofs.block.Goals as goal

-- where the block was judged
verdict-here : (c : After-judge-verdict) → let a = c.args in Verdict a.t.now a.number a.samples.now (four a.out.now a.first.now a.second.now a.third.now) (judged_number c.judge-verdict.result)
verdict-here c =
    let t = c.args.t.now in
    judged-here (c.judge-verdict.ensures t.energies t.correlations t.eighths t.outs) c.requires.0.0 c.requires.1

pub take_by-requires-clause-fits : goal.take_by-requires-clause-fits
take_by-requires-clause-fits c z =
    let v = verdict-here (goal.at.take_by-requires-clause-fits c).After-judge-verdict in
    let f = verdict-fits v (omega (arith, z)) in (f.nonempty, f.most, verdict-zero v z)

pub answer-requires : goal.answer-requires
answer-requires c h =
    let v = verdict-here (goal.at.answer-requires c).After-judge-verdict in
    let f = left-fits _ v c.requires.0.1.heard h c.take_by.ensures.tuner in
    (f.few, omega (arith, f.long, f.most), f.room)

pub returns : goal.returns
returns c =
    let v = verdict-here (goal.at.returns c).After-judge-verdict in
    let d = c.take_by.ensures in
    took_by v d.tuner refl (λ h. (left-fits _ v c.requires.0.1.heard h d.tuner).long) c.answer.ensures.answer c.answer.ensures.outs d.rows
