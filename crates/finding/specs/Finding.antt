-- Finding a period: what the search is given, and what it answers.
use Rattle.std.specs.Prelude.{◌≡◌, List, ℕ, ◌+◌, ◌<◌, get_or, Option, Some, None}
use Rattle.std.proofs.Common.{ap, ◌∙◌}
use Rattle.std.proofs.Math.Option.{Option as Perhaps, none, some}
use Rattle.rules.specs.Rules.{Sound, E, D, eighth_lags}
use Rattle.passing.specs.Distances.{Distances}

-- an answer, as the rules write it
abbrev pub lag_of : Option ℕ → Perhaps ℕ
lag_of (Some L) = some L
lag_of None = none

-- d and e are the D and E of the eighth-rate sound y at the lags 2 to 110
pub record Measured (y : Sound) (d e : List ℕ) : Type 0 where
  pub distances : Distances y 2 eighth_lags d
  pub energy : (j : ℕ) → j < eighth_lags → get_or e j 0 ≡ E y (2 + j)

-- ---- the places 0 to 108 are the lags 2 to 110
module _ {y : Sound} {d e : List ℕ} (m : Measured y d e) {j L : ℕ} (h : j < eighth_lags) (same : 2 + j ≡ L) where
  pub distance-at : get_or d j 0 ≡ D y L
  distance-at = m.distances.distance j h ∙ ap (D y) same

  pub energy-at : get_or e j 0 ≡ E y L
  energy-at = m.energy j h ∙ ap (E y) same
