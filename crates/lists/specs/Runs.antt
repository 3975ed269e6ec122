-- Laws of rows: what one sample more, behind all others, makes of them. Without a note it makes nothing, with the note of the last sample it makes the last
-- row longer by one, and with another it is a row of its own.
use Rattle.std.specs.Prelude.{◌≡◌, List, [], ◌∷◌, ◌++◌, ℕ, suc}
use Rattle.lists.specs.Lists.{Row, row, before, runs_from}

-- ---- with the note of the last sample
abbrev pub longer : Row → Row
longer r = row r.note r.first (suc r.length)

-- the last row longer by one
unfoldable pub lengthened : Row → List Row → List Row
lengthened r [] = longer r ∷ []
lengthened r (s ∷ rs) = r ∷ lengthened s rs

-- the rows before and after a sample more
pub record Longer (at : ℕ) (ns : List ℕ) (n : ℕ) : Type 0 where
  pub head : Row
  pub tail : List Row
  pub was : runs_from at ns ≡ head ∷ tail
  pub now-is : runs_from at (ns ++ n ∷ []) ≡ lengthened head tail

-- a sample before rows of which the last grows: so does the last of all
pub record Grows (at m : ℕ) (r : Row) (rs : List Row) : Type 0 where
  pub head : Row
  pub tail : List Row
  pub was : before at m (r ∷ rs) ≡ head ∷ tail
  pub now-is : before at m (lengthened r rs) ≡ lengthened head tail
