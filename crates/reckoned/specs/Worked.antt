-- Worked reports: document 01's whole case, and a total whose mean is not that of its takes' means.
use Rattle.std.specs.Prelude.{List, ◌∷◌, ℕ, ◌+◌}

-- seven fields of one digit each
abbrev pub line : ℕ → ℕ → ℕ → ℕ → ℕ → ℕ → ℕ → List ℕ → List ℕ
line a b c d e f g more = (48 + a) ∷ 9 ∷ (48 + b) ∷ 9 ∷ (48 + c) ∷ 9 ∷ (48 + d) ∷ 9 ∷ (48 + e) ∷ 9 ∷ (48 + f) ∷ 9 ∷ (48 + g) ∷ 10 ∷ more
