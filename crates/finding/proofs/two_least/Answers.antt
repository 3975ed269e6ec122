use mathlib.Core.Path.{◌≡◌, subst}
use Prim.Native.Nat.{ℕ}
use native.Mathlib.Omega.{arith}
use Rattle.finding.specs.Scan.{InOrder, Leasts, none_in_order, lower_in_order, leasts_none, leasts_passed}
use Rattle.finding.proofs.two_least.Goals as goal

pub greatest-most-requires : goal.greatest-most-requires
greatest-most-requires c = (c.requires.0, c.requires.2)

pub loop-l-init : goal.loop-l-init
loop-l-init c =
    let p = c.next_down-l.ensures in (
      p.from,
      p.upto,
      none_in_order _,
      λ y m. leasts_passed m c.greatest-most.ensures p (omega arith) leasts_none,
    )

pub with_lag-t-requires : goal.with_lag-t-requires
with_lag-t-requires c =
    let i = c.loop-l.invariant in
    let p = c.requires in
    (c.loop-l-test.true, i.1, p.0, p.1, p.2, i.2)

pub loop-l-smaller : goal.loop-l-smaller
loop-l-smaller c = omega (arith, c.next_down-l-in-loop-l.ensures.upto)

pub loop-l-preserved : goal.loop-l-preserved
loop-l-preserved c =
    let p = c.next_down-l-in-loop-l.ensures in
    let w = c.with_lag-t.ensures in
    let i = c.loop-l.invariant in (
      p.from,
      omega (arith, p.upto),
      lower_in_order p.upto w.0,
      λ y m. leasts_passed m c.greatest-most.ensures p (omega arith) (w.1 y m (i.3 y m)),
    )

pub returns : goal.returns
returns c =
    let l = c.loop-l in
    let e : l.l ≡ 2 = omega arith in
    let g = c.args.g in
    (subst (λ (n : ℕ). InOrder n l.t) e l.invariant.2, λ y m. subst (λ (n : ℕ). Leasts g y n l.t) e (l.invariant.3 y m))
