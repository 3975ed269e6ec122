-- The number that answers a block whose record is good and that fits, over the record's numbers. Definitions only.
use Rattle.std.specs.Prelude.{◌≡◌, ℕ, ◌+◌, ◌-◌, ◌%◌, ◌<◌, ◌≤◌, cond, List, length, drop, ℤ, ◌==◌, ◌≢◌, Result, Ok, Err}
use Rattle.rules.specs.Rules.{take_limit, kept_samples}
use Rattle.refusals.specs.declared.Refusal.{Refusal}
use Rattle.refusals.specs.Refusals.{refusal_number}
use Rattle.answers.specs.declared.Answer.{Answer}
use Rattle.answers.specs.declared.Turn.{Turn}
use Rattle.answers.specs.declared.Turn.TheVariants.{Taken, GivenAgain}

-- an answer with this number and counts 0
abbrev pub plain : ℕ → Answer
plain v = record { number = v; written = 0; repeated = 0; dropped = 0 }

-- 0 where a block is taken, 1 where it is given again, and else the number of its refusal
abbrev pub judged_number : Result Turn Refusal → ℕ
judged_number (Ok Taken) = 0
judged_number (Ok GivenAgain) = 1
judged_number (Err r) = refusal_number r

-- there is a last block, of so many samples, and it has this number
abbrev pub HasNumber : ℕ → ℕ → ℕ → Type 0
HasNumber size last k = (0 < size) × (k ≡ last)

-- the number that follows: 0 is the first, and 65535 is followed by 0
abbrev pub following : ℕ → ℕ → ℕ
following size last = cond (size == 0) 0 ((last + 1) % 65536)

-- given again, refused with 5, 6 or 7, or taken
pub data Numbered (count last size : ℕ) (store : List ℤ) (k : ℕ) (xs : List ℤ) : ℕ → Type 0 where
  neither : (HasNumber size last k → ⊥) → (k ≢ following size last) → Numbered count last size store k xs 5
  other : HasNumber size last k → (xs ≢ drop (kept_samples - size) store) → Numbered count last size store k xs 6
  again : HasNumber size last k → xs ≡ drop (kept_samples - size) store → Numbered count last size store k xs 1
  full : (HasNumber size last k → ⊥) → k ≡ following size last → take_limit < count + length xs → Numbered count last size store k xs 7
  new : (HasNumber size last k → ⊥) → k ≡ following size last → count + length xs ≤ take_limit → Numbered count last size store k xs 0
