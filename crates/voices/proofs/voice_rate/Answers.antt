-- 32 bits hold the period over an entry.
use native.Mathlib.Omega.{arith}
use Rattle.rules.proofs.Notes.{raw-fits}
use Rattle.voices.proofs.voice_rate.Goals as goal

pub raw_rate-requires : goal.raw_rate-requires
raw_rate-requires c = (omega arith, raw-fits _ _ c.requires.1 (c.requires.2 (omega arith)))
