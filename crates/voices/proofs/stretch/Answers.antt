use mathlib.Core.Path.{◌≡◌, sym, subst}
use Prim.Native.Nat.{ℕ}
use native.Mathlib.Omega.{arith}
use Rattle.voices.specs.Singing.{SangTo}
use Rattle.voices.proofs.Singing.{sang_to_more}
use Rattle.voices.proofs.stretch.Goals as goal

pub loop-i-preserved : goal.loop-i-preserved
loop-i-preserved c = sang_to_more (omega (arith, c.requires.0.most)) (sym c.if-periods-i.false) (sym c.if-notes-i.false) c.loop-i.invariant c.sound-behind.ensures

pub returns : goal.returns
returns c =
    let a = c.args in
    let l = c.loop-i in
    let e : l.i ≡ a.b = omega (arith, c.requires.0.some) in
    (c.requires.0.some, omega arith, subst (λ (n : ℕ). SangTo a.v.rate a.v.period a.v.note a.v.behind a.periods.now a.notes.now a.s.now a.m a.from a.out.now l.out n l.behind) e l.invariant)
