use mathlib.Core.Path.{◌≡◌, refl, sym, subst, ◌∙◌, transport}
use Prim.Native.Nat.{ℕ}
use native.Mathlib.Omega.{arith}
use Rattle.voices.specs.Singing.{Reckoned, Kept, Sang}
use Rattle.voices.proofs.Singing.{rate-none, rate-kept, sang-none}
use Rattle.voices.proofs.sing.Goals as goal

pub loop-i-init : goal.loop-i-init
loop-i-init c =
    let a = c.args in
    (omega arith, refl, ((λ some. absurd (omega (arith, some))), sym (rate-none a.hertz a.interval 128 refl)), sang-none a.hertz a.interval a.behind a.periods.now a.notes.now a.s.now a.m a.out.now c.requires.0)

pub beside-v-requires : goal.beside-v-requires
beside-v-requires c =
    let l = c in
    let p = l.requires in
    (p.1, p.2, p.3.each l.loop-i.i c.loop-i-test.true, l.loop-i.invariant.2)

pub stretch-d-requires : goal.stretch-d-requires
stretch-d-requires c =
    let l = c in
    let p = l.requires in
    let v = l.loop-i.invariant in
    let t = c.loop-i-test.true in
    let e = c.beside-v.ensures in
    let k = p.3.each l.loop-i.i t in (
      record {
        near = omega (arith, e.0, v.3.near);
        kept = transport (λ j. Kept (sym e.3.1 j) (sym e.1 j)) (rate-kept p.1 l.args.interval k);
        stored = p.4;
        enough = p.5;
        most = p.6;
        some = t;
        period = e.1;
        note = e.2;
      },
      v.1 ∙ p.7,
    )

pub loop-i-smaller : goal.loop-i-smaller
loop-i-smaller c = let d = c.stretch-d.ensures in omega (arith, d.0, d.1)

pub loop-i-preserved : goal.loop-i-preserved
loop-i-preserved c =
    let w = c in
    let l = w in
    let a = l.args in
    let v = l.loop-i.invariant in
    let r = w.beside-v.result in
    let e = w.beside-v.ensures in
    let d = c.stretch-d.ensures in
    let known : Reckoned a.hertz a.interval r.period r.note r.entry r.rate = transport (λ j. Reckoned a.hertz a.interval (sym e.1 j) (sym e.2 j) r.entry r.rate) e.3 in
    let here = subst (λ (k : ℕ). Sang a.hertz a.interval a.behind a.periods.now a.notes.now a.s.now a.m l.loop-i.i a.out.now l.loop-i.out k) (sym e.0) v.3 in
    (d.1, d.2.same ∙ v.1, known, d.2.sang a.hertz a.interval a.behind a.out.now l.requires.7 known.1 here)

pub shape_of-out : goal.shape_of-out
shape_of-out c = c.loop-i.invariant.1

pub returns : goal.returns
returns c =
    let a = c.args in
    let l = c.loop-i in
    let e : l.i ≡ a.b = omega (arith, l.invariant.0) in
    subst (λ (n : ℕ). Sang a.hertz a.interval a.behind a.periods.now a.notes.now a.s.now a.m n a.out.now l.out l.v.behind) e l.invariant.3
