-- `notes::goal_of_key` meets its contract: it is the definition, and a wanted period is one of the table's.
use mathlib.Core.Path.{ap, ◌∙◌}
use native.Mathlib.Omega.{arith}
use Rattle.rules.specs.Rules.{raw_toward, goal_of}
use Rattle.rules.proofs.Notes.{wanted_period_range}
use Rattle.notes.proofs.goal_of_key.Goals as goal

pub raw_toward-requires : goal.raw_toward-requires
raw_toward-requires c =
    let e = c.wanted_period.ensures in
    (c.requires.1, λ h. omega (arith, e, (wanted_period_range c.requires.0 c.args.key (omega (arith, e))).0))

pub returns : goal.returns
unfolding goal_of
returns c =
    let w = c in
    let a = w.args in
    λ i. record { note = a.key; raw = (c.raw_toward.ensures ∙ ap (raw_toward a.period) w.wanted_period.ensures) i }
