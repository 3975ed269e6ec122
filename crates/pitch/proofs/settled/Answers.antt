-- `pitch::settled` meets its contract, by whether it tracks.
use mathlib.Core.Path.{◌∙◌, ap}
use Rattle.tracking.specs.declared.Tracker.{Tracker}
use Rattle.pitch.specs.Keeping.{settled-tracking, settled-searching}
use Rattle.pitch.proofs.settled.Goals as goal

pub returns-then-v-eq1 : goal.returns-then-v-eq1
returns-then-v-eq1 c x r = settled-tracking c.args.v x c.if-v-eq1.true r

pub returns : goal.returns
returns c x r =
    let v = c.args.v in
    ap (λ (t : Tracker). record { tracker = t; tone = v.tone; tracking = 0 }) c.blank.ensures ∙ settled-searching v x c.if-v-eq1.false
