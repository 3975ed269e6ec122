-- The rule of a table: entry p of note n at hertz samples a second is the whole number nearest to hertz x 256 / (440 x 2^((n-69)/12)).
-- It is said over whole numbers, by comparing twelfth powers of 2p-1 and 2p+1 with 2^69 multiplied in, and computed once over each table.
use Rattle.std.specs.Prelude.{◌≡◌, Bool, true, ◌&&◌, ℕ, ◌+◌, ◌-◌, ◌*◌, ◌≤◌, ltb}
use Rattle.rules.specs.Every.{every}
use Rattle.rules.specs.Rules.{table, first_note, notes}
use Rattle.rules.specs.Tuning.{times, second}

-- where a table begins and ends
pub record Span (hertz : ℕ) : Type 0 where
  pub first : (32 ≤ first_note hertz) × (first_note hertz ≤ 33)
  pub end : (101 ≤ first_note hertz + notes hertz) × (first_note hertz + notes hertz ≤ 103)

-- a test of note and entry, computed over the table of a sample rate
abbrev pub EachPasses : (ℕ → ℕ → ℕ → Bool) → ℕ → Type 0
EachPasses test hertz = every (test hertz) (first_note hertz) (table hertz) ≡ true

-- the one computed test on twelfth powers, over both tables
abbrev pub is_nearest : ℕ → ℕ → ℕ → Bool
is_nearest hertz n p = ltb (times n (2 * p - 1)) (second hertz) && ltb (second hertz) (times n (2 * p + 1))
