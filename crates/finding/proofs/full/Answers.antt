-- `finding::full` meets its contract: the direct sums of a store of 16-bit samples are what `distance` asks for, and it makes D of them.
use native.Mathlib.Omega.{arith}
use mir.Syntax.{w64}
use mir.Val.{to_z, of_z}
use Rattle.ages.specs.Ages.{past, past-fits}
use Rattle.sums.specs.Kept.{RightAt}
use Rattle.sums.specs.Sweep.{stored}
use Rattle.finding.proofs.full.Goals.{After-direct-t}
use Rattle.finding.proofs.full.Goals as goal

-- the direct sums, as the local holds them
sums : (c : After-direct-t)
    → RightAt (past c.args.s.now) c.args.lag c.direct-t.result.e (to_z w64 (of_z w64 c.direct-t.result.h))
sums c = let s = c in stored (past-fits s.requires.samples) (omega (arith, s.requires.upto)) c.direct-t.ensures

pub distance-requires : goal.distance-requires
distance-requires c =
    let s = c in
    record {
      sound = past s.args.s.now;
      fits = past-fits s.requires.samples;
      lag = s.args.lag;
      upto = omega (arith, s.requires.upto);
      right = sums (goal.at.distance-requires c).After-direct-t;
    }

pub returns : goal.returns
returns c =
    let s = c in
    c.distance.ensures (past s.args.s.now) s.args.lag (sums (goal.at.returns c).After-direct-t)
