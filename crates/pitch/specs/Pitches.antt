-- What the code keeps of a pitch, as the rules' own record; when it is right; and what is kept of a pitch of the rules. Definitions only.
use Rattle.std.specs.Prelude.{◌≡◌, cond, ℕ, ◌≤◌, eqb, pos, replicate}
use Rattle.rules.specs.Rules.{Sound, Mode, searching, tracking, Pitch}
use Rattle.rules.specs.Facts.{PitchIn, Right, energies_of, correlations_of}
use Rattle.tracking.specs.declared.Tracker.{Tracker}
use Rattle.pitch.specs.declared.Pitch.{Pitch as KeptPitch}

-- searching, or tracking the eight lags from low on
abbrev pub mode_of : KeptPitch → Mode
mode_of v = cond (eqb v.tracking 1) (tracking v.tracker.low v.tracker.last) searching

-- the pitch that is kept
abbrev pub pitch_of : KeptPitch → Pitch
pitch_of v = record { mode = mode_of v; tone = v.tone }

-- it is right over the sound x: searching or tracking, in its ranges, and while tracking the sums of the eight lags are the direct ones
pub record PitchRight (x : Sound) (v : KeptPitch) : Type 0 where
  pub flag : v.tracking ≤ 1
  pub pitch : PitchIn (pitch_of v)
  pub sums : v.tracking ≡ 1 → Right x v.tracker.low 8 v.tracker.e v.tracker.h

-- ---- what is kept of a pitch, over the sound x

-- 1 while tracking, else 0
unfoldable pub tracking_of : Mode → ℕ
tracking_of searching = 0
tracking_of (tracking low last) = 1

-- the eight lags: blank while searching
abbrev pub blank : Tracker
blank = record { low = 0; last = 0; e = replicate 8 0; h = replicate 8 (pos 0) }

unfoldable pub tracker_of : Mode → Sound → Tracker
tracker_of searching x = blank
tracker_of (tracking low last) x = record { low = low; last = last; e = energies_of x low 8; h = correlations_of x low 8 }

abbrev pub kept_of : Pitch → Sound → KeptPitch
kept_of p x = record { tracking = tracking_of p.mode; tone = p.tone; tracker = tracker_of p.mode x }
