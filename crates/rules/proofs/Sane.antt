-- The ranges that every sample of a take keeps, whatever it is: those of its pitch, and the bounds of the read position.
-- A tone in its ranges paces the position, and a position so paced keeps its bounds: never ahead, never over 1,000 samples behind.
use Rattle.std.specs.Prelude.{◌≡◌, refl, ℕ, ◌+◌, ◌-◌, ◌≤◌, ℤ, length}
use Rattle.std.proofs.Common.{subst, arith}
use mathlib.Core.List.{List, [], ◌∷◌}
use Rattle.std.proofs.Math.Option.{Option, none, some}
use Rattle.whole.specs.Tests.{cond_case}
use Rattle.rules.specs.declared.Settings.{Settings}
use Rattle.rules.specs.declared.InForce.{InForce}
use Rattle.rules.specs.declared.Tone.{Tone}
use Rattle.rules.specs.Rules.{Sound, Mode, searching, tracking, Pitch, Take, no_tone, no_period, found, searched, best, period, moved, is_lost, tuned, tracked, eighth_due, step_due, listened_in, listened, input_at, fresh_take, stepped, after}
use Rattle.rules.specs.Facts.{ForceIn, ToneIn, unpitched, LagsIn, ModeIn, PitchIn, InBounds}
use Rattle.rules.proofs.Choosing.{best-first, found_range}
use Rattle.rules.proofs.Periods.{period_range, moved_range, moved-best}
use Rattle.rules.proofs.Notes.{tuned_in}
use Rattle.rules.proofs.Position.{tone-paced, behind_in_bounds, growth_in_bounds, at_most_one}
use Rattle.rules.proofs.Blocks.{after-count}
use Rattle.rules.specs.Sane.{Sane}

-- ---- what searching and tracking leave

without_period_in : (m : Mode) → ModeIn m → PitchIn (no_period m)
unfolding no_tone
without_period_in m h = record { tone = unpitched refl refl (omega arith); lags = h; while_searching = λ e. refl }

-- the eight lags from a found lag minus 3, and as a tracking step moves them
pub found-lags : (s : Settings) (x y : Sound) (lag : ℕ) → found s x y ≡ some lag → LagsIn (lag - 3) lag
found-lags s x y lag e =
    let r = found_range s x y lag e in record { from = omega arith; upto = omega arith; last_from = omega arith; last_upto = omega arith }

pub moved-lags : (x : Sound) {low last : ℕ} → LagsIn low last → LagsIn (moved low (best x low)) (low + best x low)
moved-lags x {low} h =
    let at = best x low in
    let m = moved_range low at h.from (omega (arith, h.upto)) in
    let b = moved-best low at (best-first x low).inside in record { from = m.0; upto = omega (arith, m.1); last_from = b.0; last_upto = b.1 }

module _ (s : Settings) (x y : Sound) where
  searched_in : {p : Pitch} → PitchIn p → (o : Option ℕ) → found s x y ≡ o → PitchIn (searched p o)
  unfolding searched
  searched_in h none e = h
  searched_in h (some lag) e = without_period_in (tracking (lag - 3) lag) (found-lags s x y lag e)

pub tracking_is_not_searching : {low last : ℕ} → tracking low last ≡ searching → ⊥
tracking_is_not_searching e = let z : ◌≡◌ {A = ℕ} 0 1 = cc in omega arith

module _ {f : InForce} (r : ForceIn f) where
  tracked_in : (x : Sound) {t : Tone} {low last : ℕ} → ToneIn t → LagsIn low last → PitchIn (tracked f x t low last)
  unfolding tracked
  tracked_in x {t} {low} {last} a h =
      let at = best x low in
      let p = period_range x low h.from (omega (arith, h.upto)) in
      cond_case (is_lost f.settings x (low + at) last) (no_period searching) (record { mode = tracking (moved low at) (low + at); tone = tuned f t (period x low at) }) PitchIn
      (λ e. without_period_in searching tt)
      (λ e. record {
        tone = tuned_in r a (period x low at) p.0 p.1;
        lags = moved-lags x h;
        while_searching = λ s. absurd (tracking_is_not_searching s);
      })

  listened_in_in : (m : Mode) (n : ℕ) (x y : Sound) {p : Pitch} → ModeIn m → PitchIn p → PitchIn (listened_in m f n x y p)
  unfolding listened_in
  listened_in_in searching n x y {p} l h =
      cond_case (eighth_due n) (searched p (found f.settings x y)) p PitchIn (λ e. searched_in f.settings x y h (found f.settings x y) refl) (λ e. h)
  listened_in_in (tracking low last) n x y {p} l h =
      cond_case (step_due n) (tracked f x p.tone low last) p PitchIn (λ e. tracked_in x h.tone l) (λ e. h)

  listened_is_in : (n : ℕ) (x y : Sound) {p : Pitch} → PitchIn p → PitchIn (listened f n x y p)
  unfolding listened
  listened_is_in n x y {p} h = listened_in_in p.mode n x y h.lags h

-- ---- a fresh take, one sample, and any number of them
pub fresh_sane : Sane fresh_take
unfolding fresh_take input_at
fresh_sane = record { pitch = without_period_in searching tt; bounds = behind_in_bounds {b = 0} (record { is = refl; near = omega arith }) }

module _ {f : InForce} (r : ForceIn f) where
  pub stepped_sane : {t : Take} → Sane t → (x : ℤ) → Sane (stepped f t x).next
  unfolding stepped
  stepped_sane h x =
      let p = listened_is_in r _ _ _ h.pitch in
      record { pitch = p; bounds = growth_in_bounds _ _ h.bounds (tone-paced p.tone) }

  -- after no sample are there two cycles repeated, two dropped, or one of each
  pub at_most_one_cycle : {t : Take} → Sane t → (x : ℤ) → length (stepped f t x).given.repeats + length (stepped f t x).given.drops ≤ 1
  unfolding stepped
  at_most_one_cycle h x = at_most_one _ _ h.bounds (tone-paced (listened_is_in r _ _ _ h.pitch).tone)

  pub after_sane : {t : Take} → Sane t → (xs : List ℤ) → Sane (after f t xs)
  unfolding after
  after_sane h [] = h
  after_sane {t = t} h (x ∷ xs) = after_sane {t = (stepped f t x).next} (stepped_sane h x) xs

  -- never ahead, never over 1,000 samples behind, at every sample: xs is any beginning of what comes
  pub always_in_bounds : {t : Take} → Sane t → (xs : List ℤ) → InBounds (t.count + length xs) (after f t xs).position
  always_in_bounds {t} h xs = subst (λ (n : ℕ). InBounds n (after f t xs).position) (after-count f t xs) (after_sane h xs).bounds
