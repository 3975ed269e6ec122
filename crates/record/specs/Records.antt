-- The parts of a tuner's record: settings, sample rate, keyboard, what was heard, the pitch, the read head and the last block. When each is right, and fresh; what was heard after more samples. Definitions only.
use Rattle.std.specs.Prelude.{◌≡◌, cond, List, [], ◌∷◌, ℕ, suc, ◌+◌, ◌/◌, ◌≤◌, ◌<◌, ℤ, pos, length, replicate}
use Rattle.rules.specs.declared.Settings.{Settings}
use Rattle.rules.specs.Rules.{Sound, silence, heard, heard_all, eighth_due, eighth_sample, farthest, no_tone, take_limit, longest_block, kept_samples, kept_eighths, eighth_lags}
use Rattle.rules.specs.Facts.{InRange, SampleRate, value_at, Right, energies_of, correlations_of, keeping}
use Rattle.keyboard.specs.declared.Keyboard.{Keyboard}
use Rattle.keyboard.specs.Keys.{KeyboardIn}
use Rattle.pitch.specs.declared.Pitch.{Pitch as KeptPitch}
use Rattle.pitch.specs.Pitches.{PitchRight, blank}
use Rattle.record.specs.declared.Heard.{Heard}
use Rattle.record.specs.declared.Head.{Head}
use Rattle.record.specs.declared.Last.{Last}

-- the sound of the kept samples: what is from before them counts as 0
abbrev pub sound_of : List ℤ → Sound
sound_of kept = heard_all silence kept

-- ---- what was heard

-- the count is at most the limit, kept samples from before the take are 0, and the sums are the direct ones
pub record HeardRight (h : Heard) : Type 0 where
  pub count : h.count ≤ take_limit
  pub before : (i : ℕ) → i + h.count < kept_samples → value_at h.store i ≡ pos 0
  pub eighths_before : (i : ℕ) → i + h.count / 8 < kept_eighths → value_at h.eighths i ≡ pos 0
  pub sums : Right (sound_of h.eighths) 2 eighth_lags h.energies h.correlations

unfoldable pub fresh_heard : Heard
fresh_heard =
    record {
      count = 0;
      energies = replicate eighth_lags 0;
      correlations = replicate eighth_lags (pos 0);
      store = replicate kept_samples (pos 0);
      eighths = replicate kept_eighths (pos 0);
    }

-- the eighth-rate samples made while the samples come after n samples of the sound x
unfoldable pub made : ℕ → Sound → List ℤ → List ℤ
made n x [] = []
made n x (new ∷ more) =
    let rest = made (suc n) (heard new x) more in
    cond (eighth_due (suc n)) (eighth_sample (heard new x) ∷ rest) rest

-- what was heard, with the samples xs: the newest are kept, and the sums are those over them
unfoldable pub heard_after : Heard → List ℤ → Heard
heard_after h xs =
    let eighths = keeping h.eighths (made h.count (sound_of h.store) xs) in
    record {
      count = h.count + length xs;
      energies = energies_of (sound_of eighths) 2 eighth_lags;
      correlations = correlations_of (sound_of eighths) 2 eighth_lags;
      store = keeping h.store xs;
      eighths = eighths;
    }

-- ---- the pitch: right as `PitchRight` says

unfoldable pub fresh_pitch : KeptPitch
fresh_pitch = record { tracker = blank; tone = no_tone; tracking = 0 }

-- ---- the read head: not ahead of the input nor over 1,000 samples behind

pub record HeadRight (d : Head) : Type 0 where
  pub behind : d.behind ≤ farthest

unfoldable pub fresh_head : Head
fresh_head = record { behind = 0 }

-- ---- the last block of a take of so many samples; its counts and output are not tested

pub record LastRight (count : ℕ) (l : Last) : Type 0 where
  pub length : l.length ≤ longest_block
  pub within : l.length ≤ count

-- there is none
unfoldable pub no_last : Last
no_last = record { number = 0; length = 0; repeated = 0; dropped = 0; out = replicate longest_block (pos 0) }

-- ---- all parts are right
pub record AllRight (s : Settings) (r : ℕ) (k : Keyboard) (h : Heard) (v : KeptPitch) (d : Head) (l : Last) : Type 0 where
  pub settings : InRange s
  pub hertz : SampleRate r
  pub keyboard : KeyboardIn k
  pub heard : HeardRight h
  pub pitch : PitchRight (sound_of h.store) v
  pub head : HeadRight d
  pub last : LastRight h.count l
