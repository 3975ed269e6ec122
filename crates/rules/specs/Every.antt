-- A test that antt computes once over a whole list holds at each of its places.
-- The test reads the place, counted from any number, and the entry there.
use Rattle.std.specs.Prelude.{Bool, true, ◌&&◌, List, [], ◌∷◌, ℕ, suc}

-- the test holds at every entry, the first of which stands at place i
abbrev pub every : {A : Type 0} → (ℕ → A → Bool) → ℕ → List A → Bool
every test i [] = true
every test i (a ∷ more) = test i a && every test (suc i) more
