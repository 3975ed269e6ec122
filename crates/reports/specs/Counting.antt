-- Laws of figures: those of a block by the periods and rates told of its samples, figures of takes one after the other, and how large they get.
use Rattle.std.specs.Prelude.{cond, List, [], ◌∷◌, ℕ, ◌+◌, ◌*◌, ◌≤◌, eqb}
use Rattle.rules.specs.Rules.{away, fresh_rate}
use Rattle.reports.specs.declared.Figures.{Figures}

-- ---- by the numbers told

abbrev pub one_pitched : ℕ → ℕ
one_pitched p = cond (eqb p 0) 0 1

-- of some periods, how many are one
unfoldable pub pitched_in : List ℕ → ℕ
pitched_in [] = 0
pitched_in (p ∷ ps) = one_pitched p + pitched_in ps

-- of some rates, the sum of the distances
unfoldable pub distance_in : List ℕ → ℕ
distance_in [] = 0
distance_in (r ∷ rs) = away r fresh_rate + distance_in rs

-- the figures of n samples with these periods and rates, and so many cycles
abbrev pub block_figures : ℕ → List ℕ → List ℕ → ℕ → ℕ → Figures
block_figures n ps rs repeated dropped = record { samples = n; pitched = pitched_in ps; repeated = repeated; dropped = dropped; sum = distance_in rs }

-- ---- how large they get

-- the figures of at most n samples: at most one cycle a sample, and no rate over twice or under half
pub record Within (n : ℕ) (f : Figures) : Type 0 where
  pub samples : f.samples ≤ n
  pub pitched : f.pitched ≤ n
  pub repeated : f.repeated ≤ n
  pub dropped : f.dropped ≤ n
  pub sum : f.sum ≤ 65536 * n

-- a thousand takes of 1,000,000,000 samples: the sum is far below what 64 bits hold
abbrev pub most : ℕ
most = 1000000000000
