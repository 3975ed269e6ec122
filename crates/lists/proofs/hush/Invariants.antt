-- After i turns the first i are hushed.
use mathlib.Core.Path.{◌≡◌}
use Rattle.lists.specs.Hushes.{hushed}
use Rattle.lists.proofs.hush.Given as goal

abbrev pub invariant-loop-i : goal.invariant-loop-i
invariant-loop-i l = l.notes ≡ hushed l.i l.periods l.initial.notes
