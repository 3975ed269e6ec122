-- `pitch::track` meets its contract: a step that is kept has a period in its range, which is tuned; a lost one leaves no period.
use native.Mathlib.Omega.{arith}
use Rattle.pitch.specs.Listening.{modest, lags_of, became_lost, became_tuned}
use Rattle.pitch.proofs.track.Goals as goal

pub step-period-requires : goal.step-period-requires
step-period-requires c =
    let p = c.requires in
    let l = lags_of p.1 p.0 in
    (l.from, omega (arith, l.upto), omega (arith, l.last_upto, l.upto), modest p.2, p.3, p.1.sums p.0)

pub returns-in-Some : goal.returns-in-Some
returns-in-Some c = became_tuned c.args.f c.args.v c.requires.2 c.requires.1.pitch.tone (rw (← c.in-Some.is) c.step-period.ensures) c.tune.ensures

pub returns-in-None : goal.returns-in-None
returns-in-None c = became_lost c.args.f c.args.v (rw (← c.in-None.is) c.step-period.ensures) c.no_tone.ensures
