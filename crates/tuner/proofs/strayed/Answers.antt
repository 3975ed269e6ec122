-- `tuner::strayed` meets its contract: a rate lies at most 65536 from 65536, and at most 512 of them are added.
use mathlib.Core.Path.{sym}
use native.Mathlib.Omega.{arith}
use Rattle.reports.proofs.Counting.{no_distance, distance-more}
use Rattle.tuner.proofs.strayed.Goals as goal

pub loop-rate-init : goal.loop-rate-init
loop-rate-init c = (sym no_distance, omega arith)

pub loop-rate-preserved : goal.loop-rate-preserved
loop-rate-preserved c =
    let l = c.loop-rate in
    let more = distance-more c.args.rates.now l.rate-index c.loop-rate-test.true in
    let upto = c.requires.1 l.rate-index c.loop-rate-test.true in
    (omega (arith, more, upto, l.invariant.0, c.abs_diff-sum.ensures), omega (arith, upto, l.invariant.1, c.abs_diff-sum.ensures))
