-- What is asked of numbers that are kept: settings and pitch in their ranges, a position in bounds, sums that are the direct ones. Definitions only.
use Rattle.std.specs.Prelude.{◌≡◌, List, ◌++◌, ℕ, ◌+◌, ◌≤◌, ◌<◌, ℤ, pos, neg_ℤ, ◌-ℤ◌, length, get_or, drop, ◌≤ℤ◌}
use Rattle.whole.specs.Numbers.{list_of}
use Rattle.rules.specs.declared.Settings.{Settings}
use Rattle.rules.specs.declared.InForce.{InForce}
use Rattle.rules.specs.declared.Tone.{Tone}
use Rattle.rules.specs.Rules.{settings_number, Sound, E, H, input_at, farthest, lowest_lag, highest_lag, least_period, greatest_period, cd_rate, film_rate, first_note, notes, no_note, fresh_rate, least_rate, greatest_rate, Mode, searching, tracking, Pitch}

-- settings in range: none of them is refused
abbrev pub InRange : Settings → Type 0
InRange s = settings_number s ≡ 0

-- one of the two sample rates
pub data SampleRate (hertz : ℕ) : Type 0 where
  cd : hertz ≡ cd_rate → SampleRate hertz
  film : hertz ≡ film_rate → SampleRate hertz

-- what is in force, in its ranges
pub record ForceIn (f : InForce) : Type 0 where
  pub settings : InRange f.settings
  pub key : f.key ≤ no_note
  pub hertz : SampleRate f.hertz

-- a note of the table of a sample rate
pub record OfTable (hertz n : ℕ) : Type 0 where
  pub from : first_note hertz ≤ n
  pub upto : n < first_note hertz + notes hertz

-- a tone in its ranges: a period, a wanted note or none, and a rate; or no period, and the rate 65536; and what is kept, 0 to 255
pub data ToneIn (t : Tone) : Type 0 where
  pitched : least_period ≤ t.period → t.period ≤ greatest_period → t.note ≤ no_note → least_rate ≤ t.rate → t.rate ≤ greatest_rate → t.kept ≤ 255 → ToneIn t
  unpitched : t.period ≡ 0 → t.rate ≡ fresh_rate → t.kept ≤ 255 → ToneIn t

-- without a period there is no wanted note, the rate is 65536 and nothing is kept
abbrev pub WithoutPeriod : Tone → Type 0
WithoutPeriod t = t.period ≡ 0 → (t.note ≡ no_note) × (t.rate ≡ fresh_rate) × (t.kept ≡ 0)

-- eight lags in their range, and the last best among them
pub record LagsIn (low last : ℕ) : Type 0 where
  pub from : lowest_lag ≤ low
  pub upto : low + 7 ≤ highest_lag
  pub last_from : low ≤ last
  pub last_upto : last ≤ low + 7

abbrev pub ModeIn : Mode → Type 0
ModeIn searching = Unit
ModeIn (tracking low last) = LagsIn low last

-- a pitch in its ranges; searching, there is no period
pub record PitchIn (p : Pitch) : Type 0 where
  pub tone : ToneIn p.tone
  pub lags : ModeIn p.mode
  pub while_searching : p.mode ≡ searching → p.tone.period ≡ 0

-- not ahead of the input nor over 1,000 samples behind
pub record InBounds (n : ℕ) (at : ℤ) : Type 0 where
  pub not_ahead : at ≤ℤ input_at n
  pub not_far : (input_at n -ℤ pos farthest) ≤ℤ at

-- the sample at a place, 0 past the end
abbrev pub value_at : List ℤ → ℕ → ℤ
value_at s i = get_or s i (pos 0)

-- a sample of 16 bits
abbrev pub SixteenBits : ℤ → Type 0
SixteenBits a = (neg_ℤ (pos 32768) ≤ℤ a) × (a ≤ℤ pos 32767)

-- the energies e and correlations h kept at the n lags from low on are the direct sums over the sound x
pub record Right (x : Sound) (low n : ℕ) (e : List ℕ) (h : List ℤ) : Type 0 where
  pub energies : length e ≡ n
  pub correlations : length h ≡ n
  pub energy : (j : ℕ) → j < n → get_or e j 0 ≡ E x (low + j)
  pub correlation : (j : ℕ) → j < n → value_at h j ≡ H x (low + j)

-- the energies and the correlations of a sound at the n lags from low on
abbrev pub energies_of : Sound → ℕ → ℕ → List ℕ
energies_of x low n = list_of (λ (j : ℕ). E x (low + j)) n

abbrev pub correlations_of : Sound → ℕ → ℕ → List ℤ
correlations_of x low n = list_of (λ (j : ℕ). H x (low + j)) n

-- the newest of what was kept and what came
abbrev pub keeping : List ℤ → List ℤ → List ℤ
keeping kept new = drop (length new) (kept ++ new)
