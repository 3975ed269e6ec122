-- `tuner::Tuner::judge` meets its contract: the tests in document 01's order, and the numbers where all held.
use native.Mathlib.Omega.{arith}
use Rattle.tuner.specs.Tuners.{block_empty, block_over_512, output_short}
use Rattle.tuner.proofs.Verdicts.{by_number}
use Rattle.tuner.proofs.Tuner.judge.Goals as goal

pub returns-then-b-eq0 : goal.returns-then-b-eq0
returns-then-b-eq0 c energies correlations eighths outs os least good = block_empty good c.if-b-eq0.true

pub returns-then-b-gt-LONGEST_BLOCK : goal.returns-then-b-gt-LONGEST_BLOCK
returns-then-b-gt-LONGEST_BLOCK c energies correlations eighths outs os least good = block_over_512 good c.if-b-gt-LONGEST_BLOCK.true

pub returns-then-room-b : goal.returns-then-room-b
returns-then-room-b c energies correlations eighths outs os least good = output_short good (omega arith) (omega arith) (λ r. let q = least.least _ r in omega (arith, q, c.if-room-b.true))

pub returns : goal.returns
returns c energies correlations eighths outs os least good = by_number (record { good = good; nonempty = omega arith; most = omega arith; room = least.fits _ (omega arith) }) c.judge.ensures
