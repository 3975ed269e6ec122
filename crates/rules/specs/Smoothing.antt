-- Smoothing that keeps what rounding cut off: the rate never passes its goal, never moves away from it, and reaches it, whatever the decay does on the way.
-- What moves is 256 x rate + kept: with any decay up to 255 at least one of 256 parts is the raw rate, so that of the way left each step takes a 256th, rounded down, or more.
use Rattle.std.specs.Prelude.{ℕ, zero, suc, ◌+◌, ◌-◌, ◌*◌, ◌/◌, ◌≤◌}
use Rattle.rules.specs.declared.Smoothed.{Smoothed}

-- ---- The way to the goal

-- what is left of a way v after n steps, where each takes a 256th of it, rounded down
unfoldable pub way_left : ℕ → ℕ → ℕ
way_left zero v = v
way_left (suc n) v = way_left n (v - v / 256)

-- at most v is left: 256 x rate + kept lies at most v above 256 x raw, and at most v below 256 x raw + 255
pub record Near (raw v : ℕ) (s : Smoothed) : Type 0 where
  pub above : 256 * s.rate + s.kept ≤ 256 * raw + v
  pub below : 256 * raw + 255 ≤ 256 * s.rate + s.kept + v
