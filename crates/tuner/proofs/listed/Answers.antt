-- `tuner::listed` meets its contract: without a list nothing is read or written; else the notes are hushed, and the list goes on.
use mathlib.Core.Path.{sym, ◌∙◌}
use borrow.Author.Tests.{eq-eqb, ne_eqb}
use lib.ListN.{take}
use Rattle.whole.specs.Tests.{cond_yes, cond_no}
use Rattle.lists.specs.Lists.{sheet, after_notes}
use Rattle.tuner.specs.Following.{listed_of}
use Rattle.tuner.proofs.listed.Goals as goal

pub returns-then-keeps-eq0 : goal.returns-then-keeps-eq0
unfolding listed_of
returns-then-keeps-eq0 c = sym (cond_yes _ _ (eq-eqb _ 0 c.if-keeps-eq0.true))

pub returns : goal.returns
unfolding listed_of
returns c =
    let a = c.args in
    c.more.ensures
    ∙ (λ i. after_notes (c.sung.ensures i) a.count (sheet a.list a.store.now) (take a.b (c.hush_if.ensures i)))
    ∙ sym (cond_no (sheet a.list a.store.now) _ (ne_eqb a.keeps 0 c.if-keeps-eq0.false))
