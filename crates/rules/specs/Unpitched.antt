-- Without a period there is no wanted note, the rate is one and nothing is kept: a sample that takes the period away leaves no tone, and one that finds a period leaves more than 0.
-- So a position that was level with the input stays level, and the sample of four samples ago is read.
use Rattle.std.specs.Prelude.{◌≡◌, pos, ◌-ℤ◌}
use Rattle.rules.specs.Rules.{Pitch, input_at, Take}
use Rattle.rules.specs.Facts.{WithoutPeriod, ModeIn}

-- ---- the tone

-- lags in their range, and no tone where there is no period
pub record Clear (p : Pitch) : Type 0 where
  pub lags : ModeIn p.mode
  pub tone : WithoutPeriod p.tone

-- ---- four samples late

-- the position is level with the input
abbrev pub Level : Take → Type 0
Level t = t.position ≡ input_at t.count -ℤ pos 0
