-- Worked rates of voices, one table and one statement over it. They shut out a voice that is bound to the scale, one that keeps the lead's limits, and one that is smoothed: the scale and the decay are nowhere in the rule, and rates go as far as 1,201 and 3,556,721. Definitions only.
use Rattle.std.specs.Prelude.{◌≡◌, List, [], ◌∷◌, ℕ}
use Rattle.rules.specs.Rules.{cd_rate, film_rate}
use Rattle.voices.specs.Voices.{voice_rate}

-- beside this period and this wanted note, at a sample rate, a voice of this interval (12 is none) has this rate; 0 is silent
pub record Row : Type 0 where
  pub hertz : ℕ
  pub interval : ℕ
  pub period : ℕ
  pub note : ℕ
  pub rate : ℕ

abbrev row : (hertz interval period note rate : ℕ) → Row
row hertz interval period note rate = record { hertz = hertz; interval = interval; period = period; note = note; rate = rate }

-- each row is what the rule gives
unfoldable pub AllHold : List Row → Type 0
AllHold [] = Unit {0}
AllHold (r ∷ rs) = (voice_rate r.hertz r.interval r.period r.note ≡ r.rate) × AllHold rs

-- the table
unfoldable pub rates : List Row
rates =
    -- in unison with a lead that is in tune, and with one that is flat: the lead's raw rate
    row cd_rate 12 25658 69 65536
    ∷ row cd_rate 12 26000 69 66410
    -- an octave above and below
    ∷ row cd_rate 24 25658 69 131072
    ∷ row cd_rate 0 25658 69 32768
    -- four semitones above A, where the scale may be A alone: note 73
    ∷ row cd_rate 16 25658 69 82569
    -- beyond the lead's limits: the least and the greatest of all rates
    ∷ row film_rate 0 4096 45 1201
    ∷ row film_rate 24 225280 90 3556721
    -- beside a key outside the table it sounds where its own note is inside
    ∷ row cd_rate 9 30000 101 409174
    -- silent: its own note outside the table, above it and below note 0; no wanted note; no period
    ∷ row cd_rate 15 30000 98 0
    ∷ row cd_rate 0 30000 11 0
    ∷ row cd_rate 12 30000 128 0
    ∷ row cd_rate 12 0 69 0
    ∷ []

-- all of them hold
abbrev pub RatesHold : Type 0
RatesHold = AllHold rates
