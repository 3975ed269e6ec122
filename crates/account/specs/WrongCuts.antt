-- Three wrong programs, by which the cutting of a take would matter, and that no program which keeps the promise of a block is one of them (`CutsShutOut`). Definitions only.
use Rattle.std.specs.Prelude.{◌≡◌, cond, List, [], ◌∷◌, ℕ, ◌+◌, ◌*◌, ◌/◌, ◌%◌, ◌<◌, eqb, ℤ, pos, neg_ℤ, length}
use Rattle.rules.specs.declared.Settings.{Settings}
use Rattle.rules.specs.Rules.{Sound, no_period, Mode, searching, tracking, input_at, cd_rate, defaults}
use Rattle.keyboard.specs.Keys.{fresh}
use Rattle.history.specs.History.{Course}
use Rattle.tuner.specs.declared.Tuner.{Tuner}
use Rattle.tuner.specs.Tuners.{default_tuner, with_numbers, with_settings}
use Rattle.account.specs.Cutting.{lead_after}
use Rattle.account.specs.Wrong.{Program, Keeps, Gives}

-- ---- the list

-- tracking steps fall on multiples of 5 of the block's place: a block of fewer samples has none, so a tuner that tracks keeps its tone through it
abbrev pub StepsByPlace : Program → Type 0
StepsByPlace q = (t : Tuner) (k : ℕ) (xs ys : List ℤ) → Gives q t k xs ys → length xs < 5 → t.numbers.pitch.tracking ≡ 1 → (q t k xs ys).tuner.numbers.pitch.tone ≡ t.numbers.pitch.tone

-- searches only at a block's end: a tuner that searches has no period yet where the block ends
abbrev pub SearchesAtTheEnd : Program → Type 0
SearchesAtTheEnd q = (t : Tuner) (k : ℕ) (xs ys : List ℤ) → Gives q t k xs ys → t.numbers.pitch.tracking ≡ 0 → (q t k xs ys).tuner.numbers.pitch.tone.period ≡ 0

-- the tuner after a change of its settings
abbrev pub changed : Tuner → Settings → Tuner
changed t s = with_numbers t (with_settings t.numbers s)

-- settings count from the next block on: the block after a change finds what it would have found without it
abbrev pub SettingsLate : Program → Type 0
SettingsLate q =
    (t : Tuner) (s : Settings) (k : ℕ) (xs ys : List ℤ) → Gives q (changed t s) k xs ys → Gives q t k xs ys
    → (q (changed t s) k xs ys).tuner.numbers.pitch ≡ (q t k xs ys).tuner.numbers.pitch

-- ---- the calls on which they are tried

-- a tone with 24 samples a cycle, 8 high and 16 low
unfoldable pub wave : Sound
wave k = cond (eqb (k / 8 % 3) 0) (pos 200) (neg_ℤ (pos 100))

-- a course of n samples of it, with the defaults; the newest sample stands d places before a cycle's beginning, and there is no period yet
unfoldable pub tone_for : (n d : ℕ) → Mode → Course
tone_for n d m =
    record {
      hertz = cd_rate;
      settings = defaults;
      keyboard = fresh;
      take = record { count = n; sound = λ (k : ℕ). wave (k + d); eighths = λ (k : ℕ). wave (8 * (k + 1)); pitch = no_period m; position = input_at n };
    }

-- it is searched for, or its lag was found
abbrev pub searching_tone : Course
searching_tone = tone_for 1799 1 searching

abbrev pub found_tone : Course
found_tone = tone_for 1804 20 (tracking 21 24)

-- good records, as a host may hand them in: last block, list and voices are the default tuner's
abbrev pub searching_tuner : Tuner
searching_tuner = lead_after searching_tone default_tuner

abbrev pub found_tuner : Tuner
found_tuner = lead_after found_tone default_tuner

-- a sample with a step due, and six samples, of which the first has a search due, the last a step
abbrev pub one_sample : List ℤ
one_sample = neg_ℤ (pos 100) ∷ []

abbrev pub six_samples : List ℤ
six_samples = pos 200 ∷ neg_ℤ (pos 100) ∷ neg_ℤ (pos 100) ∷ neg_ℤ (pos 100) ∷ neg_ℤ (pos 100) ∷ neg_ℤ (pos 100) ∷ []

-- settings for which the tone is too soft
unfoldable pub loud_only : Settings
loud_only = record { scale = 4095; eps = 100; decay = 0; floor = 1000000; mode = 0; channel = 0 }

-- the program keeps the promise on these calls
pub record TriedCuts (q : Program) : Type 0 where
  pub searches : Keeps q searching_tuner 0 six_samples six_samples
  pub steps : Keeps q found_tuner 0 one_sample one_sample
  pub otherwise : Keeps q (changed found_tuner loud_only) 0 one_sample one_sample

-- it is none of the list
pub record CutsRight (q : Program) : Type 0 where
  pub steps_by_place : StepsByPlace q → ⊥
  pub searches_at_the_end : SearchesAtTheEnd q → ⊥
  pub settings_late : SettingsLate q → ⊥

-- no program that keeps the promise, if only on those calls, is one of the list
abbrev pub CutsShutOut : Type 0
CutsShutOut = (q : Program) → TriedCuts q → CutsRight q
