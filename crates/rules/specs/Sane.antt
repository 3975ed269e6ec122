-- The ranges that every sample of a take keeps, whatever it is: those of its pitch, and the bounds of the read position.
-- A tone in its ranges paces the position, and a position so paced keeps its bounds: never ahead, never over 1,000 samples behind.
use Rattle.rules.specs.Rules.{Take}
use Rattle.rules.specs.Facts.{PitchIn, InBounds}

-- a take with its pitch in its ranges, and its position not ahead of the input nor over 1,000 samples behind
pub record Sane (t : Take) : Type 0 where
  pub pitch : PitchIn t.pitch
  pub bounds : InBounds t.count t.position
