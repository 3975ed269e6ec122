-- The history of a take: what happened in it, one after the other; how far the take has come by it; and what the rules give for each sample. Definitions only;
-- of the two statements at its end the proofs are `without_period` and `four_late_lem` in Unpitched.antt.
use Rattle.std.specs.Prelude.{◌≡◌, List, [], ◌∷◌, ◌++◌, map, ℕ, ◌+◌, ℤ, pos, length, take, replicate}
use Rattle.rules.specs.declared.Settings.{Settings}
use Rattle.rules.specs.declared.InForce.{InForce}
use Rattle.rules.specs.Rules.{Take, Given, fresh_take, stepped, samples_out}
use Rattle.rules.specs.Facts.{value_at, SixteenBits, WithoutPeriod}
use Rattle.keyboard.specs.declared.Keyboard.{Keyboard}
use Rattle.keyboard.specs.Keys.{fresh, after_byte, on_channel}

-- what happens in a take: a sample is sung, the settings are changed, a byte comes from the keyboard
pub data Event : Type 0 where
  sample : ℤ → Event
  new-settings : Settings → Event
  byte : ℕ → Event

-- how far a take has come: its sample rate, settings and keyboard as they stand, and the take of the rules
pub record Course : Type 0 where
  pub hertz : ℕ
  pub settings : Settings
  pub keyboard : Keyboard
  pub take : Take

-- where a take begins
abbrev pub fresh_course : ℕ → Settings → Course
fresh_course hertz s = record { hertz = hertz; settings = s; keyboard = fresh; take = fresh_take }

-- what is in force
abbrev pub force_at : Course → InForce
force_at c = record { settings = c.settings; key = c.keyboard.key; hertz = c.hertz }

-- what one event makes of it: a sample goes through the rules under what is in force; another channel forgets the key; a byte is played on the channel of the settings
unfoldable pub happened : Course → Event → Course
happened c (sample x) = record { hertz = c.hertz; settings = c.settings; keyboard = c.keyboard; take = (stepped (force_at c) c.take x).next }
happened c (new-settings s) = record { hertz = c.hertz; settings = s; keyboard = on_channel c.settings.channel s.channel c.keyboard; take = c.take }
happened c (byte b) = record { hertz = c.hertz; settings = c.settings; keyboard = after_byte c.settings.channel c.keyboard b; take = c.take }

-- what all events make of it, one after the other
unfoldable pub course_after : Course → List Event → Course
course_after c [] = c
course_after c (e ∷ es) = course_after (happened c e) es

-- what the rules give for each of the samples, in order
unfoldable pub given_by : Course → List Event → List Given
given_by c [] = []
given_by c (sample x ∷ es) = (stepped (force_at c) c.take x).given ∷ given_by (happened c (sample x)) es
given_by c (new-settings s ∷ es) = given_by (happened c (new-settings s)) es
given_by c (byte b ∷ es) = given_by (happened c (byte b)) es

-- the samples, in order
unfoldable pub samples_in : List Event → List ℤ
samples_in [] = []
samples_in (sample x ∷ es) = x ∷ samples_in es
samples_in (new-settings s ∷ es) = samples_in es
samples_in (byte b ∷ es) = samples_in es

-- the rate used at each of them: the one in force once the sample was searched or tracked
abbrev pub rates_used : List Given → List ℕ
rates_used gs = map (λ (g : Given). g.tone.rate) gs

-- the sum of all rates used
unfoldable pub total_of : List ℕ → ℕ
total_of [] = 0
total_of (r ∷ rs) = r + total_of rs

-- ---- without a period

-- after anything that happened: without a period there is no wanted note, the rate is 65536, and nothing is kept
abbrev pub WithoutPeriodTheorem : Type 0
WithoutPeriodTheorem = (hertz : ℕ) (s : Settings) (es : List Event) → WithoutPeriod (course_after (fresh_course hertz s) es).take.pitch.tone

-- no period is tracked at any of the samples
unfoldable pub NonePitched : List Given → Type 0
NonePitched [] = Unit
NonePitched (g ∷ gs) = (g.tone.period ≡ 0) × NonePitched gs

-- samples four late: four zeros, and then they, as many as came
abbrev pub four_late : List ℤ → List ℤ
four_late xs = take (length xs) (replicate 4 (pos 0) ++ xs)

-- until a period is tracked, output is the input four samples late; the samples have 16 bits
abbrev pub FourLate : Type 0
FourLate =
    (hertz : ℕ) (s : Settings) (es : List Event)
    → ((i : ℕ) → SixteenBits (value_at (samples_in es) i)) → NonePitched (given_by (fresh_course hertz s) es)
    → samples_out (given_by (fresh_course hertz s) es) ≡ four_late (samples_in es)
