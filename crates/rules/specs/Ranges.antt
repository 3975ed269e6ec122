-- Which number settings are answered, setting by setting, and the range of each where that number is 0; and the same of a start.
use Rattle.std.specs.Prelude.{ℕ, ◌≤◌}
use Rattle.rules.specs.declared.Settings.{Settings}
use Rattle.rules.specs.Rules.{scale_mode, keyboard_mode}

-- ---- one test

-- a number from one to another
abbrev pub Within : ℕ → ℕ → ℕ → Type 0
Within from to x = (from ≤ x) × (x ≤ to)

-- ---- all of them

-- each setting in its range
pub record Ranges (s : Settings) : Type 0 where
  pub scale : Within 1 4095 s.scale
  pub eps : Within 0 409 s.eps
  pub decay : Within 0 255 s.decay
  pub floor : Within 1 1000000 s.floor
  pub channel : Within 0 15 s.channel
  pub mode : Within scale_mode keyboard_mode s.mode
