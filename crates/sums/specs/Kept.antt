-- Energies and correlations that are kept: that they are the direct sums.
use Rattle.std.specs.Prelude.{◌≡◌, List, ℕ, ◌+◌, ◌*◌, ◌≤◌, ◌<◌, ℤ, pos, length, get_or}
use Rattle.std.specs.Int.{w16}
use Rattle.std.proofs.Common.{SFits}
use Rattle.whole.specs.Numbers.{total}
use Rattle.rules.specs.Facts.{value_at, Right}
use Rattle.rules.specs.Rules.{Sound, sq, E, H}
use Rattle.ages.specs.Ages.{Samples}

-- the sum of squares of the newest n samples: E at a lag is that of twice as many
abbrev pub squares : Sound → ℕ → ℕ
squares x n = total (λ (k : ℕ). sq (x k)) n

-- e and h are the energy and the correlation of the sound x at a lag
pub record RightAt (x : Sound) (lag e : ℕ) (h : ℤ) : Type 0 where
  pub energy : e ≡ E x lag
  pub correlation : h ≡ H x lag

-- the samples are enough for the n lags from low on, and for one lag more
pub record Enough (s : List ℤ) (low n : ℕ) : Type 0 where
  pub samples : Samples s
  pub from : 1 ≤ low
  pub upto : low + n ≤ 881
  pub reach : 2 * (low + n) ≤ length s

-- all of them are 0
abbrev pub Zeros : List ℕ → List ℤ → Type 0
Zeros e h = (j : ℕ) → j < length e → (get_or e j 0 ≡ 0) × (value_at h j ≡ pos 0)

-- some sound of 16-bit samples, of which e and h are the direct sums at n lags up to 880
pub record Kept (n : ℕ) (e : List ℕ) (h : List ℤ) : Type 0 where
  pub sound : Sound
  pub fits : (k : ℕ) → SFits w16 (sound k)
  pub low : ℕ
  pub upto : low + n ≤ 881
  pub right : Right sound low n e h
