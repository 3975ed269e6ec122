-- `tuner::give_voice` meets its contract: a voice that is not chosen is passed over.
use mathlib.Core.Path.{sym, ap, ◌∙◌}
use mathlib.Core.List.{List, ◌++◌}
use borrow.Author.Tests.{lt-ltb, le-ltb}
use lib.IntN.{ℤ}
use lib.ListN.{drop}
use Rattle.whole.specs.Tests.{cond_yes, cond_no}
use Rattle.tuner.specs.Following.{written_by}
use Rattle.tuner.proofs.Outputs.{voice_part}
use Rattle.tuner.proofs.give_voice.Goals as goal

pub returns-then-j-chosen : goal.returns-then-j-chosen
unfolding written_by
returns-then-j-chosen c =
    let a = c.args in
    c.give.ensures
    ∙ ap (λ (l : List ℤ). l ++ drop a.b a.out.now) (voice_part a.kept.now a.j a.b c.requires.0 c.requires.1)
    ∙ sym (cond_yes _ a.out.now (lt-ltb a.j a.chosen c.if-j-chosen.true))

pub returns-else-j-chosen : goal.returns-else-j-chosen
unfolding written_by
returns-else-j-chosen c = let a = c.args in sym (cond_no _ a.out.now (le-ltb a.j a.chosen c.if-j-chosen.false))
