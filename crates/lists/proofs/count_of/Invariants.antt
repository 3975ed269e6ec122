-- After i turns the first i are counted.
use mathlib.Core.Path.{◌≡◌}
use Rattle.lists.specs.Counting.{counted}
use Rattle.lists.proofs.count_of.Given as goal

abbrev pub invariant-loop-v : goal.invariant-loop-v
invariant-loop-v l = l.count ≡ counted l.value l.values l.v-index
