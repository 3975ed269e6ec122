-- `meters::fine_figure` meets its contract: the law at the power 16.
use native.Mathlib.Omega.{arith}
use lib.Ieee.{of_bits}
use Rattle.meters.specs.Unrounded.{divided-exactly}
use Rattle.meters.proofs.fine_figure.Goals as goal

pub returns : goal.returns
unfolding of_bits
returns c = divided-exactly c.args.n 16 c.requires (omega arith)
