-- `passing::distances` meets its contract: after i turns the first i places hold D, at the lags of any sound whose sums e and h are.
use Rattle.std.proofs.Common.{◌≡◌, ℕ, ◌+◌, ◌<◌, length, get_or}
use Rattle.rules.specs.Rules.{Sound, D}
use Rattle.rules.specs.Facts.{Right}
use Rattle.passing.proofs.distances.Given as goal

abbrev pub invariant-loop-i : goal.invariant-loop-i
invariant-loop-i l =
    (length l.d ≡ length l.initial.d) × ((x : Sound) (low : ℕ) → Right x low (length l.initial.d) l.e l.h → (j : ℕ) → j < l.i → get_or l.d j 0 ≡ D x (low + j))
