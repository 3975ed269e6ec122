-- `meters::figure` meets its contract: the law at the power 8.
use native.Mathlib.Omega.{arith}
use lib.Ieee.{of_bits}
use Rattle.meters.specs.Unrounded.{divided-exactly}
use Rattle.meters.proofs.figure.Goals as goal

pub returns : goal.returns
unfolding of_bits
returns c = divided-exactly c.args.n 8 c.requires (omega arith)
