-- Laws of the parts: each is decided by a function, and what the types alone say of them.
use Rattle.std.specs.Prelude.{◌≡◌, refl, Bool, List, ℕ, ◌+◌, ◌-◌, ◌<◌, ℤ, pos, length}
use Rattle.std.proofs.Common.{sym, ap, ◌∙◌, arith, take_all}
use Rattle.whole.specs.Tests.{Decides, decides_as}
use Rattle.rules.specs.Rules.{Sound, silence, heard_all, kept_samples, kept_eighths, eighth_lags}
use Rattle.rules.specs.Facts.{ToneIn, LagsIn, value_at, Right}
use Rattle.rules.proofs.Sane.{tracking_is_not_searching}
use Rattle.ages.specs.Ages.{ago, past, past-all, Samples}
use Rattle.tracking.specs.declared.Tracker.{Tracker}
use Rattle.pitch.specs.declared.Pitch.{Pitch as KeptPitch}
use Rattle.pitch.specs.Pitches.{PitchRight}
use Rattle.pitch.specs.Listening.{is-tracking, is-searching, lags_of}
use Rattle.record.specs.declared.Heard.{Heard}
use Rattle.record.specs.Records.{sound_of}

-- ---- what was heard

-- with these arrays, which may be lent
abbrev pub heard_of : ℕ → List ℕ → List ℤ → List ℤ → List ℤ → Heard
heard_of count energies correlations store eighths = record { count = count; energies = energies; correlations = correlations; store = store; eighths = eighths }

-- the samples from before a take of n
pub silent_of : {b : Bool} (s : List ℤ) (kept n m : ℕ) → m ≡ kept - n → Decides b ((i : ℕ) → i < m → value_at s i ≡ pos 0) → Decides b ((i : ℕ) → i + n < kept → value_at s i ≡ pos 0)
silent_of s kept n m e d = decides_as d (λ p i l. p i (omega arith)) (λ p i l. p i (omega arith))

-- the sound of all that is kept, and its sums
pub ago-all : (s : List ℤ) (m : ℕ) → length s ≡ m → ago s m ≡ sound_of s
unfolding ago
ago-all s m e = ap (heard_all silence) (take_all m s (omega arith))

pub right_of : {b : Bool} {h : List ℤ} {e : List ℕ} {low : ℕ} (s : List ℤ) (m n : ℕ) → length s ≡ m → length e ≡ n → Decides b (Right (past s) low (length e) e h) → Decides b (Right (sound_of s) low n e h)
right_of s m n p q d = rw (past-all s, ago-all s (length s) refl, q) at d

-- what its types say
pub record Stores (h : Heard) : Type 0 where
  pub store : length h.store ≡ kept_samples
  pub eighths : length h.eighths ≡ kept_eighths
  pub energies : length h.energies ≡ eighth_lags
  pub correlations : length h.correlations ≡ eighth_lags
  pub store_fits : Samples h.store
  pub eighths_fit : Samples h.eighths

-- ---- a pitch by its mode

-- the eight lags in their range, with their sums
pub record TrackerRight (x : Sound) (t : Tracker) : Type 0 where
  pub lags : LagsIn t.low t.last
  pub sums : Right x t.low 8 t.e t.h

module _ {x : Sound} {v : KeptPitch} where
  pub right-tracking : v.tracking ≡ 1 → ToneIn v.tone → TrackerRight x v.tracker → PitchRight x v
  right-tracking e o k =
      record {
        flag = omega arith;
        pitch = record { tone = o; lags = rw (is-tracking v e) k.lags; while_searching = λ s. absurd (tracking_is_not_searching (sym (is-tracking v e) ∙ s)) };
        sums = λ f. k.sums;
      }

  pub tracking-right : v.tracking ≡ 1 → PitchRight x v → TrackerRight x v.tracker
  tracking-right e r = record { lags = lags_of r e; sums = r.sums e }

  pub right-searching : v.tracking ≡ 0 → ToneIn v.tone → v.tone.period ≡ 0 → PitchRight x v
  right-searching e o z =
      record {
        flag = omega arith;
        pitch = record { tone = o; lags = rw (is-searching v (λ f. omega arith)) tt; while_searching = λ s. z };
        sums = λ f. absurd (omega arith);
      }

  pub searching-right : (v.tracking ≡ 1 → ⊥) → PitchRight x v → v.tone.period ≡ 0
  searching-right n r = r.pitch.while_searching (is-searching v n)
