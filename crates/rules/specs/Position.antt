-- The read position, by how far it lies behind the input: a natural number b, which grows by a sample and shrinks by the rate.
-- A cycle is longer than what a rate can run ahead, and shorter than 1,000 samples, so one of them mends either bound and never breaks the other.
use Rattle.std.specs.Prelude.{◌≡◌, ℕ, ◌+◌, ◌*◌, ◌-◌, ◌/◌, ◌≤◌, length, ℤ, ◌-ℤ◌}
use Rattle.std.proofs.Math.IntN.{pos}
use Rattle.rules.specs.Rules.{Growth, greatest_period, input_at}

-- ---- the bounds

-- the same, by how far it lies behind
pub record Behind (n : ℕ) (at : ℤ) (b : ℕ) : Type 0 where
  pub is : at ≡ input_at n -ℤ pos b
  pub near : b ≤ 65536000

-- the rate lies no farther from one than a cycle is long, so that one cycle mends what one sample does; without a period it is one
pub record Paced (rate p : ℕ) : Type 0 where
  pub slow : 65536 ≤ rate + 256 * p
  pub fast : rate ≤ 65536 + 256 * p
  pub upto : p ≤ greatest_period

-- what a growth that keeps the bounds after sample n leaves
pub record Kept (n : ℕ) (g : Growth) : Type 0 where
  pub behind : ℕ
  pub still : Behind n g.position behind
  pub one : length g.repeats + length g.drops ≤ 1

-- ---- the output

-- how many samples behind, rounded up, and by how much that is more than b
abbrev pub whole_behind : ℕ → ℕ
whole_behind b = (b + 65535) / 65536

abbrev pub fraction_behind : ℕ → ℕ
fraction_behind b = whole_behind b * 65536 - b
