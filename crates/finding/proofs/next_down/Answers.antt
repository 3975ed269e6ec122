use Rattle.std.proofs.Common.{◌≡◌, ℕ, ◌+◌, ◌-◌, subst, arith}
use Rattle.finding.specs.Scan.{Passed, passed_none, passed-more}
use Rattle.finding.proofs.next_down.Goals as goal

pub loop-k-init : goal.loop-k-init
loop-k-init c =
    let e : c.args.l ≡ c.args.l + 1 - 1 = omega arith in
    subst (λ (n : ℕ). Passed c.args.d.now c.args.most n c.args.l) e (passed_none c.requires.0)

pub loop-k-preserved : goal.loop-k-preserved
loop-k-preserved c = passed-more (omega arith) c.if-d-k.false c.loop-k.invariant

pub returns : goal.returns
returns c =
    let e : c.loop-k.k - 1 ≡ 2 = omega (arith, c.loop-k.invariant.from) in
    subst (λ (n : ℕ). Passed c.args.d.now c.args.most n c.args.l) e c.loop-k.invariant
