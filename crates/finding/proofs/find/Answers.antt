-- `finding::find` meets its contract: too quiet, and no lag passes (`nothing-found`); otherwise d holds D of every sound whose sums e and h are,
-- so that the two least lows, and what is found by them, are the rule's.
use mathlib.Core.Path.{sym}
use native.Mathlib.Omega.{arith}
use Rattle.ages.specs.Ages.{past}
use Rattle.passing.specs.Distances.{small-energies, small-distances}
use Rattle.finding.specs.Quiet.{nothing-found}
use Rattle.finding.proofs.find.Goals as goal

pub returns-then-quiet : goal.returns-then-quiet
returns-then-quiet c y r =
    let s = c in
    let q = (c.quiet.ensures c.if-quiet.true).quiet in
    sym (nothing-found s.args.g y (omega (arith, r.energy 108 (omega arith))) (past s.args.s.now))

pub two_least-t-requires : goal.two_least-t-requires
two_least-t-requires c =
    let d = c in
    let p = d.requires in
    let k = p.0 in
    (p.1, small-distances k (d.distances.ensures k.sound k.low k.right), small-energies k)

pub returns : goal.returns
returns c y r =
    let t = c in
    c.found_by.ensures _ y (t.two_least-t.ensures.1 y (record { distances = t.distances.ensures y 2 r; energy = r.energy }))
