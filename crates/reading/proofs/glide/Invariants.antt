-- After i turns it is so of the first i samples.
use mathlib.Core.Path.{◌≡◌}
use lib.ListN.{length}
use Rattle.reading.specs.Gliding.{Glided}
use Rattle.reading.proofs.glide.Given as goal

abbrev pub invariant-loop-i : goal.invariant-loop-i
invariant-loop-i l = Glided l.behind l.rates l.periods l.s l.m l.i l.initial.out l.out l.g × (length l.out ≡ length l.initial.out)
