-- `meters::lag_figure` meets its contract: the law at the power 0.
use mathlib.Core.Path.{refl}
use native.Mathlib.Omega.{arith}
use lib.Ieee.{of_int}
use Rattle.meters.specs.Meters.{ratio}
use Rattle.meters.specs.Unrounded.{exactly}
use Rattle.meters.proofs.lag_figure.Goals as goal

pub returns : goal.returns
unfolding of_int ratio
returns c = exactly c.args.lag 0 c.requires (omega arith) refl
