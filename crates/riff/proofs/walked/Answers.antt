use Rattle.std.proofs.Common.{◌+◌, sym, ap, ◌∙◌, subst, leb-true, leb-false}
use Rattle.riff.specs.Walks.{stepped}
use Rattle.riff.specs.Walking.{Walking, walk_begins, walk_goes_on, walk_ends}
use Rattle.riff.proofs.walked.Goals as goal

pub loop-w-init : goal.loop-w-init
loop-w-init c = walk_begins c.begin-w.ensures

pub loop-w-preserved : goal.loop-w-preserved
loop-w-preserved c =
    let w = c.loop-w.w in
    subst (Walking c.args.bytes.now c.args.end) (sym (c.step-w.ensures ∙ ap (stepped c.args.end w) c.read.ensures)) (walk_goes_on c.loop-w.invariant (leb-true (w.at + 8) c.args.end (sym c.goes_on.ensures ∙ c.loop-w-test.true)))

pub returns : goal.returns
returns c = walk_ends c.loop-w.invariant (leb-false (c.loop-w.w.at + 8) c.args.end (sym c.goes_on.ensures ∙ c.loop-w-test.false))
