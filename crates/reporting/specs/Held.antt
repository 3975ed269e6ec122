-- A line that has not ended, byte by byte.
use Rattle.std.specs.Prelude.{cond, List, [], ◌∷◌, ◌++◌, ℕ, ltb, length}

-- what is held with one byte more: of a line that is too long, one byte too many is enough
abbrev pub held_after : List ℕ → ℕ → List ℕ
held_after held b = cond (ltb (length held) 8193) (held ++ (b ∷ [])) held
