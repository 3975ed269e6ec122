-- The stretch begins at 512 k or, past the end, at the length, and has 512 samples or what is left.
use native.Mathlib.Omega.{arith}
use Rattle.cutting.specs.Stretches.{cut_is}
use Rattle.cutting.proofs.place.Goals as goal

pub returns : goal.returns
returns c = cut_is _ _ _ (omega arith) (omega arith)
