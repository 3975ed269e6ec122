-- A pitch as it is kept is what is kept of its pitch, over the sound over which it is right.
use Rattle.std.specs.Prelude.{◌≡◌, refl, ℕ, ◌+◌, ◌≤◌, ℤ, pos, List}
use Rattle.std.proofs.Common.{sym, ap, ◌∙◌, arith}
use Rattle.whole.specs.Lists.{is-list_of, length-list_of, get_or-list_of}
use Rattle.rules.specs.Rules.{Sound, E, H, Mode, searching, tracking, Pitch}
use Rattle.rules.specs.Facts.{PitchIn, Right, energies_of, correlations_of}
use Rattle.pitch.specs.declared.Pitch.{Pitch as KeptPitch}
use Rattle.pitch.specs.Pitches.{mode_of, pitch_of, PitchRight, tracking_of, blank, tracker_of, kept_of}
use Rattle.pitch.specs.Listening.{is-tracking, is-searching}

-- sums that are right are the lists of the direct ones, and these are right
module _ {x : Sound} {low n : ℕ} {e : List ℕ} {h : List ℤ} (r : Right x low n e h) where
  pub right-energies : e ≡ energies_of x low n
  right-energies = is-list_of (λ (j : ℕ). E x (low + j)) n 0 e r.energies r.energy

  pub right-correlations : h ≡ correlations_of x low n
  right-correlations = is-list_of (λ (j : ℕ). H x (low + j)) n (pos 0) h r.correlations r.correlation

pub listed-right : (x : Sound) (low n : ℕ) → Right x low n (energies_of x low n) (correlations_of x low n)
listed-right x low n =
    record {
      energies = length-list_of (λ (j : ℕ). E x (low + j)) n;
      correlations = length-list_of (λ (j : ℕ). H x (low + j)) n;
      energy = λ j h. get_or-list_of (λ (j : ℕ). E x (low + j)) n j 0 h;
      correlation = λ j h. get_or-list_of (λ (j : ℕ). H x (low + j)) n j (pos 0) h;
    }

module _ (v : KeptPitch) (x : Sound) where
  -- by the mode that it has
  kept_in : {m : Mode} → mode_of v ≡ m → record { tracking = tracking_of m; tone = v.tone; tracker = tracker_of m x } ≡ kept_of (pitch_of v) x
  kept_in e = sym (ap (λ (m : Mode). record { tracking = tracking_of m; tone = v.tone; tracker = tracker_of m x }) e)

  pub settled-tracking : v.tracking ≡ 1 → PitchRight x v → v ≡ kept_of (pitch_of v) x
  unfolding tracking_of tracker_of
  settled-tracking e r =
      let s = r.sums e in
      (λ i. record {
        tracking = e i;
        tone = v.tone;
        tracker = record { low = v.tracker.low; last = v.tracker.last; e = right-energies s i; h = right-correlations s i };
      })
      ∙ kept_in (is-tracking v e)

  pub settled-searching : (v.tracking ≡ 1 → ⊥) → record { tracking = 0; tone = v.tone; tracker = blank } ≡ kept_of (pitch_of v) x
  unfolding tracking_of tracker_of
  settled-searching n = kept_in (is-searching v n)

-- what is kept of a pitch holds that pitch, and is right over the sound where the pitch is in its ranges
pub kept-pitch : (p : Pitch) (x : Sound) → p ≡ pitch_of (kept_of p x)
unfolding tracking_of tracker_of
kept-pitch p x = λ i. record { mode = same p.mode i; tone = p.tone }
  where
    same : (m : Mode) → m ≡ mode_of (record { tracking = tracking_of m; tone = p.tone; tracker = tracker_of m x })
    same searching = refl
    same (tracking low last) = refl

pub kept-right : (p : Pitch) (x : Sound) → PitchIn p → PitchRight x (kept_of p x)
unfolding tracking_of tracker_of
kept-right p x h = record { flag = flag p.mode; pitch = rw (← kept-pitch p x) h; sums = sums p.mode }
  where
    flag : (m : Mode) → tracking_of m ≤ 1
    flag searching = omega arith
    flag (tracking low last) = omega arith

    sums : (m : Mode) → tracking_of m ≡ 1 → Right x (tracker_of m x).low 8 (tracker_of m x).e (tracker_of m x).h
    sums searching e = absurd (omega arith)
    sums (tracking low last) e = listed-right x low 8
