-- A tuner by its numbers and its arrays, which may be lent.
use Rattle.std.specs.Prelude.{List, ℕ, ℤ}
use Rattle.tuner.specs.declared.Numbers.{Numbers}
use Rattle.tuner.specs.declared.Tuner.{Tuner}

abbrev pub tuner_of : Numbers → List ℕ → List ℤ → (heard eighths outs : List ℤ) → Tuner
tuner_of n energies correlations heard eighths outs = record { numbers = n; energies = energies; correlations = correlations; heard = heard; eighths = eighths; outs = outs }
