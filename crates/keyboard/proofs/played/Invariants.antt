-- After i turns the keyboard is what the first i bytes leave.
use mathlib.Core.Path.{◌≡◌}
use lib.ListN.{take}
use Rattle.keyboard.specs.Keys.{played}
use Rattle.keyboard.proofs.played.Given as goal

abbrev pub invariant-loop-b : goal.invariant-loop-b
invariant-loop-b l = l.after ≡ played l.channel l.fn.k (take l.b-index l.bytes)
