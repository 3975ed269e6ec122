-- What is proved of sums, periods and the reading, as documents 01 and 02 say it of them. Definitions only; the proofs stand beside it, in Energies, Distance, Periods and Through.
use Rattle.std.specs.Prelude.{◌≡◌, ℕ, ◌+◌, ◌-◌, ◌*◌, ◌≤◌, ◌<◌, ℤ, pos, ◌+ℤ◌, ◌-ℤ◌, ◌*ℤ◌}
use Rattle.whole.specs.Numbers.{total}
use Rattle.rules.specs.Rules.{Sound, older, sq, E, H, D, least_period, greatest_period, best, period, through}
use Rattle.rules.specs.Facts.{SixteenBits}

-- ---- Energies and correlations

-- the patent's (4): from E before the newest sample x 0
unfoldable pub next_e : Sound → ℕ → ℕ → ℕ
next_e x L e = e + sq (x 0) - sq (x (2 * L))

-- its (5): from H before the newest sample x 0
unfoldable pub next_h : Sound → ℕ → ℤ → ℤ
next_h x L h = h +ℤ x 0 *ℤ x L -ℤ x L *ℤ x (2 * L)

-- they are the direct sums
abbrev pub EnergyNext : Type 0
EnergyNext = (x : Sound) (L : ℕ) → E x L ≡ next_e x L (E (older x) L)

abbrev pub CorrelationNext : Type 0
CorrelationNext = (x : Sound) (L : ℕ) → H x L ≡ next_h x L (H (older x) L)

-- lags L and L + 1 differ by two squares
abbrev pub TwoSquares : Type 0
TwoSquares = (x : Sound) (L : ℕ) → E x (L + 1) ≡ E x L + sq (x (2 * L)) + sq (x (2 * L + 1))

-- ---- D(L) = E(L) - 2H(L)

-- the sum of (x[j] - x[j-L]) squared over the newest L samples
unfoldable pub apart : Sound → ℕ → ℕ
apart x L = total (λ (k : ℕ). sq (x k -ℤ x (k + L))) L

-- D is that sum
abbrev pub DistanceApart : Type 0
DistanceApart = (x : Sound) (L : ℕ) → D x L ≡ apart x L

-- so E(L) - 2H(L) is never negative: it is the natural number D
abbrev pub DistanceIs : Type 0
DistanceIs = (x : Sound) (L : ℕ) → pos (D x L) ≡ pos (E x L) -ℤ pos 2 *ℤ H x L

-- the two newest cycles are equal
abbrev pub EqualCycles : Sound → ℕ → Type 0
EqualCycles x L = (k : ℕ) → k < L → x k ≡ x (k + L)

-- D is 0 exactly then
abbrev pub DistanceZero : Type 0
DistanceZero = (x : Sound) (L : ℕ) → (D x L ≡ 0 → EqualCycles x L) × (EqualCycles x L → D x L ≡ 0)

-- ---- Periods

-- periods lie from 4,096 to 225,280: the lowest of the eight lags is 16 to 873
abbrev pub PeriodRange : Type 0
PeriodRange = (x : Sound) (low : ℕ) → 16 ≤ low → low ≤ 873 → (least_period ≤ period x low (best x low)) × (period x low (best x low) ≤ greatest_period)

-- ---- Reading (document 02, K12)

-- at v = 0 it is a
abbrev pub AtTheSample : Type 0
AtTheSample = (p a b q : ℤ) → SixteenBits a → through p a b q 0 ≡ a
