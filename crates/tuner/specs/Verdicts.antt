-- Laws of the number that answers a block: no second number, and what follows from one.
use Rattle.std.specs.Prelude.{◌≡◌, List, ℕ, ◌≤◌, ◌<◌, ℤ, length}
use Rattle.answers.specs.Paths.{Step}
use Rattle.tuner.specs.declared.Tuner.{Tuner}
use Rattle.tuner.specs.Tuners.{Good, kept_outs, Roomy}

-- the tests before any number is looked at, and then A
abbrev pub Before : Tuner → List ℤ → List (List ℤ) → ℕ → Type 0 → Type 0
Before t xs os v A = Step (Good t) (v ≡ 9) (Step (0 < length xs) (v ≡ 2) (Step (length xs ≤ 512) (v ≡ 3) (Step (Roomy (length xs) (kept_outs t) os) (v ≡ 4) A)))
