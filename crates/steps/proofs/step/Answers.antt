-- `steps::step` meets its contract: its parts are the parts of the rules' own step (`did`).
use mathlib.Core.Path.{◌≡◌, ap, sym, subst, ◌∙◌}
use Prim.Native.Nat.{◌+◌}
use native.Mathlib.Omega.{arith}
use lib.ListN.{take}
use Rattle.rules.specs.Rules.{Sound, older}
use Rattle.ages.specs.Ages.{ago, past, past-take, ago-older}
use Rattle.passing.specs.Distances.{ample}
use Rattle.pitch.specs.Pitches.{PitchRight}
use Rattle.pitch.specs.Listening.{Listened}
use Rattle.steps.specs.Eighths.{Heard}
use Rattle.steps.specs.Running.{tones, did, ready-next, eighth_of, longer}
use Rattle.steps.proofs.step.Goals as goal

pub hear-places-requires : goal.hear-places-requires
hear-places-requires c =
    let p = c.requires in
    let k = ample (longer p.1 p.2) in
    (omega (arith, k.enough), k.samples, p.4.placed, p.5.places, p.4.eighths)

pub listen-v-requires : goal.listen-v-requires
listen-v-requires c =
    let p = c.requires in
    let a = c.args in
    let now : past (take (a.m + 1) a.s.now) ≡ ago a.s.now (a.m + 1) = past-take a.s.now (a.m + 1) in
    let before = subst (λ (x : Sound). PitchRight x a.p.pitch) (sym (ap older now ∙ ago-older a.s.now a.m p.2)) p.4.right in
    (before, p.0, eighth_of c.hear-places.ensures.eighths, ample (longer p.1 p.2))

pub returns : goal.returns
returns c =
    let p = c.requires in
    let a = c.args in
    let h = subst (λ (x : Sound). Heard (a.p.count + 1) x a.y.now a.p.places c.hear-places.new.y c.hear-places.result c.hear-places.new.e c.hear-places.new.h) (past-take a.s.now (a.m + 1)) c.hear-places.ensures in
    let l = subst (λ (x : Sound). Listened a.f (a.p.count + 1) x c.hear-places.new.e c.hear-places.new.h a.p.pitch c.listen-v.result) (past-take a.s.now (a.m + 1)) c.listen-v.ensures in (
      ready-next a.f a.s.now a.m a.y.now a.p c.listen-v.result p.2 h l p.4.placed p.4.near,
      did a.f a.s.now a.m a.y.now a.p c.listen-v.result p.2 h l (tones a.periods.now a.notes.now a.rates.now) a.i,
    )
