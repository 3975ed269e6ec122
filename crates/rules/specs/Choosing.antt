-- What the searches choose, as records that say which number is meant, and that nothing else could be chosen:
-- code proves the record, and the law gives the rules' own answer.
use Rattle.std.specs.Prelude.{◌≡◌, Bool, true, false}
use Rattle.std.proofs.Math.Option.{Option, none, some}
use Prim.Native.Nat.{ℕ, ◌+◌, ◌*◌, ◌≤◌, ◌<◌}

-- ---- the least number that passes a test

-- L, from `from` to below `upto`, passes, and none before it does
pub record Least (test : ℕ → Bool) (from upto L : ℕ) : Type 0 where
  pub over : from ≤ L
  pub under : L < upto
  pub holds : test L ≡ true
  pub before : (m : ℕ) → from ≤ m → m < L → test m ≡ false

-- what an answer says of the n numbers from `from` on
abbrev pub Answers : (ℕ → Bool) → ℕ → ℕ → Option ℕ → Type 0
Answers test from n none = (m : ℕ) → from ≤ m → m < from + n → test m ≡ false
Answers test from n (some L) = Least test from (from + n) L

-- ---- the first of the least numbers

-- of d 0 to d (n - 1), d at is the least, and less than those before it
pub record First (d : ℕ → ℕ) (n at : ℕ) : Type 0 where
  pub inside : at < n
  pub least : (j : ℕ) → j < n → d at ≤ d j
  pub first : (j : ℕ) → j < at → d at < d j

-- ---- the lag found

-- eight times an eighth-rate lag from 3 to 109
pub record EightTimes (lag : ℕ) : Type 0 where
  pub eighth : ℕ
  pub times : lag ≡ 8 * eighth
  pub over : 3 ≤ eighth
  pub under : eighth ≤ 109
