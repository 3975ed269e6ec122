-- What the meter shows, in numbers. Definitions only.
use Rattle.std.specs.Prelude.{ℕ, Float}
use Rattle.std.specs.Float.{binary32}
use Rattle.std.specs.Float.Ieee.{of_bits}
use Rattle.meters.specs.declared.Meter.{Meter}
use Rattle.meters.specs.declared.Meter.TheVariants.{Searching, Locking, Pitched, Refused}
use Rattle.host.specs.declared.Shown.{Shown}

-- the f32 0.0: all its bits are 0
abbrev pub nought : Float
nought = of_bits binary32 0

-- a state that shows nothing
abbrev pub bare : ℕ → Shown
bare state = record { state = state; lag = nought; period = nought; wanted = nought; rate = nought }

-- document 01's states as numbers, and 9 for a record that is refused; what is not shown is 0
abbrev pub shown_as : Meter → Shown
shown_as Searching = bare 0
shown_as (Locking lag) = record { state = 1; lag = lag; period = nought; wanted = nought; rate = nought }
shown_as (Pitched f) = record { state = 2; lag = nought; period = f.period; wanted = f.wanted; rate = f.rate }
shown_as Refused = bare 9
