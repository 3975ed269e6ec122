-- Without a period a take has no tone, and what it gives is what came, four samples late, whatever settings and keyboard do meanwhile:
-- at each sample the one heard four samples ago is given (`stepped_late`), and so the newest four and what is to come are what will be given.
use Rattle.std.specs.Prelude.{List, ◌∷◌, ℕ, ℤ}
use Rattle.rules.specs.Rules.{Sound, Take}
use Rattle.rules.specs.Facts.{SixteenBits}
use Rattle.rules.specs.Unpitched.{Clear, Level}

-- ---- four samples late

-- the newest four of a sound, the oldest first, and then what is to come
abbrev pub waiting : Sound → List ℤ → List ℤ
waiting x xs = x 3 ∷ x 2 ∷ x 1 ∷ x 0 ∷ xs

-- a take that is level, of 16-bit samples
pub record Late (t : Take) : Type 0 where
  pub clear : Clear t.pitch
  pub level : Level t
  pub fits : (k : ℕ) → SixteenBits (t.sound k)
