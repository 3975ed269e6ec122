use Rattle.std.proofs.Common.{◌≡◌, ℕ, suc, ◌+◌, ◌-◌, ◌/◌, ◌%◌, set, subst, arith}
use Rattle.text.specs.Spelling.{Spelling, unspelt, spelt-more, spelt}
use Rattle.text.proofs.spell.Goals as goal

pub loop-i-init : goal.loop-i-init
loop-i-init c =
    let a = c.args in
    let e : a.k ≡ a.at + a.k - a.at = omega arith in
    subst (Spelling a.out.now a.at a.n a.k a.out.now a.n) e unspelt

pub loop-i-preserved : goal.loop-i-preserved
loop-i-preserved c =
    let l = c.loop-i in
    let a = c.args in
    let e : l.i - a.at ≡ suc (l.i - 1 - a.at) = omega arith in
    let f : a.at + (l.i - 1 - a.at) ≡ l.i - 1 = omega arith in
    subst (λ (m : ℕ). Spelling a.out.now a.at a.n a.k (set l.out m (48 + l.rest % 10)) (l.rest / 10) (l.i - 1 - a.at)) f
    (spelt-more (l.i - 1 - a.at) c.requires (subst (Spelling a.out.now a.at a.n a.k l.out l.rest) e l.invariant))

pub returns : goal.returns
returns c =
    let l = c.loop-i in
    let a = c.args in
    let e : l.i - a.at ≡ 0 = omega arith in
    spelt (subst (Spelling a.out.now a.at a.n a.k l.out l.rest) e l.invariant)
