-- What searching and tracking make of a kept pitch is what the rules make of its pitch.
use Rattle.std.specs.Prelude.{◌≡◌, true, false, List, ℕ, ◌+◌, ◌-◌, ◌%◌, ◌≤◌, ℤ, Option, Some, None}
use Rattle.std.proofs.Math.Path.{refl, ap}
use Rattle.std.proofs.Common.{sym, ◌∙◌, arith, SFits}
use Rattle.std.proofs.Math.Option.{none, some}
use borrow.Author.Tests.{not-true, not-false, eq-eqb, ne_eqb}
use Rattle.std.specs.Int.{w16}
use Rattle.whole.specs.Tests.{cond_yes, cond_no}
use Rattle.rules.specs.declared.InForce.{InForce}
use Rattle.rules.specs.declared.Tone.{Tone}
use Rattle.rules.specs.Rules.{Sound, searching, tracking, Pitch, no_tone, no_period, searched, found, tracked, tuned, best, period, moved, is_lost, eighth_due, step_due, listened_in, listened, eighth_lags}
use Rattle.rules.specs.Facts.{ForceIn, ToneIn, unpitched, LagsIn, PitchIn, Right}
use Rattle.rules.proofs.Choosing.{found_range}
use Rattle.rules.proofs.Notes.{tuned_in}
use Rattle.rules.proofs.Sane.{tracking_is_not_searching}
use Rattle.rules.proofs.Ranges.{ranges}
use Rattle.sums.specs.Kept.{Kept}
use Rattle.finding.specs.Finding.{lag_of}
use Rattle.passing.specs.Distances.{Modest}
use Rattle.tracking.specs.declared.Tracker.{Tracker}
use Rattle.tracking.specs.Tracking.{Tracks, Moved, Stepped}
use Rattle.pitch.specs.declared.Pitch.{Pitch as KeptPitch}
use Rattle.pitch.specs.Pitches.{mode_of, pitch_of, PitchRight}

-- e and h are the sums at eighth rate of some sound of 16-bit samples
pub record Eighth (e : List ℕ) (h : List ℤ) : Type 0 where
  pub sound : Sound
  pub fits : (k : ℕ) → SFits w16 (sound k)
  pub right : Right sound 2 eighth_lags e h

-- the pitch p, right over the sound x
pub record Became (x : Sound) (p : Pitch) (r : KeptPitch) : Type 0 where
  pub pitch : pitch_of r ≡ p
  pub right : PitchRight x r

-- what searching leaves, and what listening to sample number n leaves, whichever sound y has the sums e and h at eighth rate
pub record Searched (f : InForce) (x : Sound) (e : List ℕ) (h : List ℤ) (v r : KeptPitch) : Type 0 where
  pub right : PitchRight x r
  pub pitch : (y : Sound) → Right y 2 eighth_lags e h → pitch_of r ≡ searched (pitch_of v) (found f.settings x y)

pub record Listened (f : InForce) (n : ℕ) (x : Sound) (e : List ℕ) (h : List ℤ) (v r : KeptPitch) : Type 0 where
  pub right : PitchRight x r
  pub pitch : (y : Sound) → Right y 2 eighth_lags e h → pitch_of r ≡ listened f n x y (pitch_of v)

pub kept-sums : {e : List ℕ} {h : List ℤ} → Eighth e h → Kept eighth_lags e h
kept-sums k = record { sound = k.sound; fits = k.fits; low = 2; upto = omega arith; right = k.right }

pub modest : {f : InForce} → ForceIn f → Modest f.settings
modest r = let k = ranges _ r.settings in record { eps = k.eps.1; floor = k.floor.1 }

-- ---- the mode that is kept
module _ (v : KeptPitch) where
  pub is-tracking : v.tracking ≡ 1 → mode_of v ≡ tracking v.tracker.low v.tracker.last
  is-tracking e = cond_yes (tracking v.tracker.low v.tracker.last) searching (eq-eqb v.tracking 1 e)

  pub is-searching : (v.tracking ≡ 1 → ⊥) → mode_of v ≡ searching
  is-searching n = cond_no (tracking v.tracker.low v.tracker.last) searching (ne_eqb v.tracking 1 n)

module _ {x : Sound} {v : KeptPitch} (r : PitchRight x v) where
  pub lags_of : v.tracking ≡ 1 → LagsIn v.tracker.low v.tracker.last
  lags_of e = rw (is-tracking v e) at r.pitch.lags

  -- one that is searching is right over any sound
  pub still-searching : {z : Sound} → (v.tracking ≡ 1 → ⊥) → PitchRight z v
  still-searching n = record { flag = r.flag; pitch = r.pitch; sums = λ e. absurd (n e) }

-- ---- what listening is, by how the tests came out
module _ (f : InForce) (n : ℕ) (x y : Sound) (v : KeptPitch) where
  pub listened-step : v.tracking ≡ 1 → n % 5 ≡ 0 → listened f n x y (pitch_of v) ≡ tracked f x v.tone v.tracker.low v.tracker.last
  unfolding listened listened_in step_due
  listened-step e d = rw (is-tracking v e, d)

  pub listened-on : v.tracking ≡ 1 → (n % 5 ≡ 0 → ⊥) → listened f n x y (pitch_of v) ≡ pitch_of v
  unfolding listened listened_in step_due
  listened-on e d = rw (is-tracking v e, ne_eqb (n % 5) 0 d)

  pub listened_search : (v.tracking ≡ 1 → ⊥) → n % 8 ≡ 0 → listened f n x y (pitch_of v) ≡ searched (pitch_of v) (found f.settings x y)
  unfolding listened listened_in eighth_due
  listened_search e d = rw (is-searching v e, d)

  pub listened_idle : (v.tracking ≡ 1 → ⊥) → (n % 8 ≡ 0 → ⊥) → listened f n x y (pitch_of v) ≡ pitch_of v
  unfolding listened listened_in eighth_due
  listened_idle e d = rw (is-searching v e, ne_eqb (n % 8) 0 d)

-- ---- a pitch that tracks, from its parts
module _ {x : Sound} {low last : ℕ} {t : Tracker} (k : Tracks x low last t) (l : LagsIn low last) {o : Tone} where
  tracks_in : ToneIn o → PitchIn (record { mode = tracking t.low t.last; tone = o })
  tracks_in h =
      record {
        tone = h;
        lags = record { from = omega (arith, k.low, l.from); upto = omega (arith, k.low, l.upto); last_from = omega (arith, k.low, k.last, l.last_from); last_upto = omega (arith, k.low, k.last, l.last_upto) };
        while_searching = λ s. absurd (tracking_is_not_searching s);
      }

  tracks_became : ToneIn o → Became x (record { mode = tracking low last; tone = o }) (record { tracker = t; tone = o; tracking = 1 })
  tracks_became h =
      record {
        pitch = λ i. record { mode = tracking (k.low i) (k.last i); tone = o };
        right = record { flag = omega arith; pitch = tracks_in h; sums = λ e. rw k.low k.sums };
      }

-- ---- a lag was found
pub became_locked : {x : Sound} {t : Tracker} (lag : ℕ) {o : Tone} → 24 ≤ lag → lag ≤ 872 → Tracks x (lag - 3) lag t → o ≡ no_tone
    → Became x (no_period (tracking (lag - 3) lag)) (record { tracker = t; tone = o; tracking = 1 })
unfolding no_tone
became_locked lag lo hi k e = rw e (tracks_became k (record { from = omega arith; upto = omega arith; last_from = omega arith; last_upto = omega arith }) (unpitched refl refl (omega arith)))

-- ---- one more sample for the eight lags
pub became_followed : {x z : Sound} {v : KeptPitch} {t : Tracker} → v.tracking ≡ 1 → PitchRight z v → Tracks x v.tracker.low v.tracker.last t
    → Became x (pitch_of v) (record { tracker = t; tone = v.tone; tracking = v.tracking })
became_followed {v = v} e r k = rw (e) (tracks_became k (lags_of r e) r.pitch.tone)

-- ---- a tracking step
module _ (f : InForce) (x : Sound) (t : Tone) (low last : ℕ) where
  tracked_lost : is_lost f.settings x (low + best x low) last ≡ true → tracked f x t low last ≡ no_period searching
  unfolding tracked
  tracked_lost e = rw e

  tracked-kept : is_lost f.settings x (low + best x low) last ≡ false
      → tracked f x t low last ≡ record { mode = tracking (moved low (best x low)) (low + best x low); tone = tuned f t (period x low (best x low)) }
  unfolding tracked
  tracked-kept e = rw e

module _ (f : InForce) {x : Sound} (v : KeptPitch) {t : Tracker} where
  pub became_lost : {o : Tone} → Stepped f.settings x v.tracker None t → o ≡ no_tone
      → Became x (tracked f x v.tone v.tracker.low v.tracker.last) (record { tracker = t; tone = o; tracking = 0 })
  unfolding no_tone
  became_lost s q =
      rw (q, tracked_lost f x v.tone v.tracker.low v.tracker.last (not-false _ (sym s.kept)))
      (record { pitch = refl; right = record { flag = omega arith; pitch = record { tone = unpitched refl refl (omega arith); lags = tt; while_searching = λ z. refl }; sums = λ z. absurd (omega arith) } })

  pub became_tuned : ForceIn f → ToneIn v.tone → {p : ℕ} {o : Tone} → Stepped f.settings x v.tracker (Some p) t → o ≡ tuned f v.tone p
      → Became x (tracked f x v.tone v.tracker.low v.tracker.last) (record { tracker = t; tone = o; tracking = 1 })
  became_tuned g h {p} s q =
      let m : Moved x v.tracker p t = s.moved in
      let lags : LagsIn t.low t.last = record { from = m.low-from; upto = omega (arith, m.low-upto); last_from = m.last-from; last_upto = m.last-upto } in
      let tracks : Tracks x t.low t.last t = record { low = refl; last = refl; sums = m.sums } in
      let b = tracks_became tracks lags (tuned_in g h p m.from m.upto) in
      rw q
      (record {
        pitch =
            (λ i. record { mode = tracking (m.low i) (m.last i); tone = tuned f v.tone (m.period i) })
            ∙ sym (tracked-kept f x v.tone v.tracker.low v.tracker.last (not-true _ (sym s.kept)));
        right = b.right;
      })

-- ---- a search
module _ (f : InForce) (x : Sound) (v : KeptPitch) (l : Option ℕ) {e : List ℕ} {h : List ℤ} (finds : (y : Sound) → Right y 2 eighth_lags e h → lag_of l ≡ found f.settings x y) where
  pub found-lag : Eighth e h → (lag : ℕ) → lag_of l ≡ some lag → (24 ≤ lag) × (lag ≤ 872)
  found-lag k lag q = found_range f.settings x k.sound lag (sym (finds k.sound k.right) ∙ q)

  pub searched-none : lag_of l ≡ none → PitchRight x v → Searched f x e h v v
  unfolding searched
  searched-none q r = record { right = r; pitch = λ y k. ap (searched (pitch_of v)) (sym q ∙ finds y k) }

  pub searched-some : {w : KeptPitch} (lag : ℕ) → lag_of l ≡ some lag → Became x (no_period (tracking (lag - 3) lag)) w → Searched f x e h v w
  unfolding searched
  searched-some lag q b = record { right = b.right; pitch = λ y k. b.pitch ∙ ap (searched (pitch_of v)) (sym q ∙ finds y k) }

-- ---- a step after one more sample for the eight lags: the tone and the lags are still those of the pitch before
pub stepped-on : (f : InForce) (x : Sound) (v : KeptPitch) {w : KeptPitch} → (w.tracking ≡ 1) × Became x (pitch_of v) w → v.tracking ≡ 1
    → tracked f x w.tone w.tracker.low w.tracker.last ≡ tracked f x v.tone v.tracker.low v.tracker.last
stepped-on f x v {w} b e =
    let m : tracking w.tracker.low w.tracker.last ≡ tracking v.tracker.low v.tracker.last =
    sym (is-tracking w b.0) ∙ ap (λ (p : Pitch). p.mode) b.1.pitch ∙ is-tracking v e in
    let r : w.tone ≡ v.tone = ap (λ (p : Pitch). p.tone) b.1.pitch in
    let l : w.tracker.low ≡ v.tracker.low = cc in
    let k : w.tracker.last ≡ v.tracker.last = cc in
    λ i. tracked f x (r i) (l i) (k i)
