-- The wanted note is the one that document 01 asks for; raw rates are nearest and lie from a half to two, and so the rate does.
-- Notes an octave apart share their bit of the scale, so a note more than an octave off loses to its octave: no case of a mask,
-- and none of a sample rate but in the tests computed over the tables.
use Rattle.std.specs.Prelude.{◌≡◌, true, ℕ, ◌+◌, ◌≤◌, ◌<◌}
use Rattle.std.proofs.Math.Option.{Option, none, some}
use Rattle.rules.specs.Rules.{first_note, notes, of_scale, least_rate, greatest_rate, no_note}
use Rattle.rules.specs.declared.Goal.{Goal}
use Rattle.rules.specs.Tuning.{IsWantedOf}

-- ---- The wanted note, at any number of samples a second

-- what an answer says of the first k notes
abbrev pub Answers : ℕ → ℕ → ℕ → ℕ → Option ℕ → Type 0
Answers hertz scale p k none = (m : ℕ) → first_note hertz ≤ m → m < first_note hertz + k → of_scale scale m ≡ true → ⊥
Answers hertz scale p k (some n) = IsWantedOf hertz scale p k n

-- ---- The entries of a table, each law by a test computed over both

-- the note past a table's last
abbrev pub end : ℕ → ℕ
end hertz = first_note hertz + notes hertz

-- ---- The goal of a tracking step, and the tone that it leaves: what stands above knows their ranges alone

-- a goal in its ranges
pub record GoalIn (g : Goal) : Type 0 where
  pub note : g.note ≤ no_note
  pub from : least_rate ≤ g.raw
  pub upto : g.raw ≤ greatest_rate
