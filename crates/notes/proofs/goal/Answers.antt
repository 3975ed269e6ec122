-- By the mode, the goal of the scale's note or of the key.
use mathlib.Core.Path.{sym, ap, ◌∙◌}
use Rattle.rules.specs.Rules.{goal_of, goal}
use Rattle.rules.proofs.Notes.{note_of_scale, note_of_keyboard}
use Rattle.rules.proofs.Ranges.{ranges}
use Rattle.notes.specs.Around.{of_rate}
use Rattle.notes.proofs.goal.Goals as goal

pub goal-requires : goal.goal-requires
goal-requires c =
    let scale = (ranges _ c.requires.0.settings).scale in (of_rate c.requires.0.hertz c.at.ensures, scale.0, scale.1, c.requires.1, c.requires.2)

pub returns-then-f-eq-SCALE_MODE : goal.returns-then-f-eq-SCALE_MODE
unfolding goal
returns-then-f-eq-SCALE_MODE c =
    let a = c.args in
    c.goal.ensures
    ∙ rw c.at.ensures.0 (sym (ap (goal_of a.f.hertz a.period) (note_of_scale a.f a.period c.if-f-eq-SCALE_MODE.true)))

pub returns-else-f-eq-SCALE_MODE : goal.returns-else-f-eq-SCALE_MODE
unfolding goal
returns-else-f-eq-SCALE_MODE c =
    let a = c.args in
    c.goal_of_key.ensures ∙ sym (ap (goal_of a.f.hertz a.period) (note_of_keyboard a.f a.period c.if-f-eq-SCALE_MODE.false))
