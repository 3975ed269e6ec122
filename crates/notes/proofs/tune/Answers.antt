-- `notes::tune` meets its contract. The goal's raw rate and the tone's rate are in their ranges, so that smoothing is allowed, and the rest is the definition.
use mathlib.Core.Path.{ap, ◌∙◌}
use native.Mathlib.Omega.{arith}
use Rattle.rules.specs.declared.Goal.{Goal}
use Rattle.rules.specs.Rules.{smooth_rate, smooth_kept, tuned}
use Rattle.rules.proofs.Notes.{goal_in}
use Rattle.rules.proofs.Position.{tone-rate, tone-kept}
use Rattle.rules.proofs.Ranges.{ranges}
use Rattle.notes.proofs.tune.Goals as goal

pub smooth-s-requires : goal.smooth-s-requires
smooth-s-requires c =
    let s = c in
    let e = ap (λ (g : Goal). g.raw) c.goal-g.ensures in
    let r = goal_in s.requires.0 s.args.period in
    let t = (tone-rate s.requires.1).1 in
    ((ranges _ s.requires.0.settings).decay.1, omega (arith, e, r.upto), omega (arith, tone-kept s.requires.1), omega (arith, e, r.upto))

pub returns : goal.returns
unfolding tuned
returns c =
    let g = c.goal-g in
    let a = c.args in
    let s = c.smooth-s.ensures in
    let decay = a.f.settings.decay in
    λ i. record {
      period = a.period;
      note = (g.ensures i).note;
      rate = (s.0 ∙ ap (λ (k : Goal). smooth_rate decay a.t.rate a.t.kept k.raw) g.ensures) i;
      kept = (s.1 ∙ ap (λ (k : Goal). smooth_kept decay a.t.rate a.t.kept k.raw) g.ensures) i;
    }
