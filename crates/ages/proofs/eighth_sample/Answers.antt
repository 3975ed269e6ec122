use Rattle.std.proofs.Common.{◌≡◌, ap, ◌∙◌, ℕ, ◌^◌, arith, to_z-of_z, SFits, to_z, of_z}
use Rattle.std.specs.Int.{w16, w32}
use Rattle.whole.specs.Words.{Bits, arg, shr, loop, fit, is, ok_of}
use Rattle.whole.specs.Adding.{summed-start, summed}
use Rattle.whole.specs.Numbers.{floor_div, sum}
use Rattle.rules.specs.Rules.{eighth_sample}
use Rattle.rules.proofs.Hearing.{eighth-fits}
use Rattle.ages.specs.Ages.{past, past-fits, from_bits}
use Rattle.ages.proofs.eighth_sample.Goals.{After-loop-k}
use Rattle.ages.proofs.eighth_sample.Goals as goal

pub loop-k-init : goal.loop-k-init
loop-k-init c = summed-start _ _

pub loop-k-preserved : goal.loop-k-preserved
loop-k-preserved c =
    let x : Bits w16 (2 ^ 15) (of_z w16 c.back.result) (past c.args.s.now c.loop-k.k) = is c.back.ensures (arg (record { sfits = c.back.type_inv })) in
    summed 8 c.loop-k.invariant (from_bits {w' = w32} x c.from-sum.ensures (record { sfits = c.from-sum.type_inv })) (omega arith) tt

-- the sum of eight, by 8: an eighth-rate sample, which has 16 bits
shifted : (c : After-loop-k) → to_z w32 (of_z w32 (floor_div (to_z w32 c.loop-k.sum-bits) 8)) ≡ eighth_sample (past c.args.s.now)
unfolding eighth_sample
shifted c =
    let r = c.loop-k.invariant in
    let e : c.loop-k.k ≡ 8 = omega arith in
    let p = loop w32 c.loop-k.sum-bits (2 ^ 18) r.reads (omega (arith, r.size, e)) in
    (shr 8 p (fit p.size tt)).reads ∙ ap (λ (n : ℕ). floor_div (sum (past c.args.s.now) n) 8) e

eighth : (c : After-loop-k) → SFits w16 (eighth_sample (past c.args.s.now))
eighth c = eighth-fits (past c.args.s.now) (past-fits c.requires.1)

pub overflow_cast-result : goal.overflow_cast-result
overflow_cast-result c = ok_of (shifted c) (eighth c)

pub returns : goal.returns
returns c = to_z-of_z (ok_of (shifted c) (eighth c)) ∙ shifted c
