-- `riff::walked` meets its contract: at each turn the walk has seen the chunks before its place, and in the end there are no others.
use Prim.Native.Nat.{◌-◌}
use Rattle.riff.specs.Walking.{Walking}
use Rattle.riff.proofs.walked.Given as goal

abbrev pub invariant-loop-w : goal.invariant-loop-w
invariant-loop-w l = Walking l.bytes l.end l.w

abbrev pub decreases-loop-w : goal.decreases-loop-w
decreases-loop-w l = l.end - l.w.at
