use mathlib.Core.Path.{◌≡◌, subst}
use Prim.Native.Nat.{ℕ}
use native.Mathlib.Omega.{arith}
use Rattle.steps.specs.Running.{tones}
use Rattle.steps.specs.Going.{Going, going_none, going_room, going_long, going_more}
use Rattle.steps.proofs.hear_all.Goals as goal

pub loop-i-init : goal.loop-i-init
loop-i-init c = going_none c.args.f (tones c.args.periods.now c.args.notes.now c.args.rates.now) c.requires.4 c.requires.5

pub step-q-requires : goal.step-q-requires
step-q-requires c =
    let l = c in
    let p = l.requires in
    let k = l.loop-i.invariant in
    let b = l.args.b in
    let t = c.loop-i-test.true in
    (p.0, going_long k b (omega (arith, t)) p.3 p.2 p.1, omega (arith, t, p.2), omega (arith, t, p.3), k.ready, going_room k b (omega (arith, t)) p.3 p.2 p.5)

pub loop-i-preserved : goal.loop-i-preserved
loop-i-preserved c =
    let l = c in
    let p = l.requires in
    let t = c.loop-i-test.true in
    going_more l.loop-i.invariant l.args.b (omega (arith, t)) p.3 p.2 p.6 c.step-q.ensures.0 c.step-q.ensures.1

pub returns : goal.returns
returns c =
    let a = c.args in
    let l = c.loop-i in
    let e : l.i ≡ a.b = omega arith in
    subst (λ (n : ℕ). Going a.f a.s.now a.m a.y.now (tones a.periods.now a.notes.now a.rates.now) a.p n l.y l.e l.h (tones l.periods l.notes l.rates) l.q) e l.invariant
