-- The three wrong programs by which the cutting of a take would matter are shut out (`cuts_shut_out`).
-- Each is told by what it would do to any block. The promise settles otherwise what becomes of a tone with 24 samples a cycle, in the sample at which a search or a step is due.
use Rattle.std.specs.Prelude.{◌≡◌, List, [], ◌∷◌, ℕ, ◌≤◌, ◌<◌, ℤ, pos, ◌-ℤ◌}
use Rattle.std.proofs.Math.Path.{refl, sym, ap, subst}
use Rattle.std.proofs.Common.{◌∙◌}
use native.Mathlib.Omega.{arith}
use Rattle.std.proofs.Math.ListN.{length}
use Rattle.whole.specs.Numbers.{fold}
use Rattle.whole.specs.Ring.{var, con, ◌⊖◌, solve}
use Rattle.rules.specs.declared.Tone.{Tone}
use Rattle.rules.specs.Rules.{settings_number, heard, E, H, D, eighth_sample, eighth_due, meets_eps, meets_floor, passes, is_low, least_from, low_above, choice, found_by, found, least_place, best, is_lost, offset, period, moved, no_tone, Mode, searching, tracking, searched, tuned, tracked, step_due, listened_in, listened, input_at, fresh_take, eighths_after, stepped, defaults, kept_samples, kept_eighths, eighth_lags}
use Rattle.rules.proofs.Ranges.{unrefused-start, default_start}
use Rattle.rules.specs.Facts.{ModeIn}
use Rattle.rules.proofs.Sane.{fresh_sane}
use Rattle.rules.proofs.Position.{behind_in_bounds, in_bounds_behind}
use Rattle.keyboard.specs.Playing.{fresh_in}
use Rattle.history.specs.History.{new-settings, Course, happened, course_after}
use Rattle.lists.proofs.Folds.{later_in}
use Rattle.history.specs.Courses.{CourseIn}
use Rattle.history.proofs.Courses.{happened_in}
use Rattle.pitch.specs.declared.Pitch.{Pitch as KeptPitch}
use Rattle.pitch.specs.Pitches.{PitchRight, tracking_of}
use Rattle.pitch.specs.Keeping.{listed-right, kept-right}
use Rattle.record.specs.Records.{sound_of}
use Rattle.record.specs.Kept.{right-alike}
use Rattle.tuner.specs.declared.Tuner.{Tuner}
use Rattle.tuner.specs.declared.Answer.{Answer}
use Rattle.tuner.specs.Tuners.{Good, silent_tuner, fresh_numbers, default_tuner, parts, Roomy, Verdict, taken, Took, with_keys}
use Rattle.staying.specs.Staying.{default_stays}
use Rattle.account.specs.Cutting.{newest, lead_after}
use Rattle.account.proofs.Newest.{newest-sound, kept-newest}
use Rattle.account.proofs.Following.{block-after}
use Rattle.account.specs.Wrong.{Done, Program}
use Rattle.account.specs.WrongCuts.{StepsByPlace, SearchesAtTheEnd, SettingsLate, changed, wave, tone_for, searching_tone, found_tone, searching_tuner, found_tuner, one_sample, six_samples, loud_only, TriedCuts, CutsShutOut}
use Rattle.account.proofs.ShutOut.{tuner-is, gives_it}
use Rattle.account.specs.CutsShutOut.{period_after, softened}

period-found : period_after searching_tone six_samples ≡ 6144
unfolding tone_for wave fold heard E H D eighth_sample eighth_due meets_eps meets_floor passes is_low least_from low_above choice found_by found least_place best is_lost offset period moved no_tone searched tuned tracked step_due listened_in listened eighths_after stepped happened course_after defaults
period-found = refl

period-tracked : (period_after found_tone one_sample ≡ 6144) × (period_after softened one_sample ≡ 0)
unfolding tone_for loud_only wave fold heard E H D eighth_due meets_eps meets_floor passes least_place best is_lost offset period moved no_tone tuned tracked step_due listened_in listened eighths_after stepped happened course_after defaults
period-tracked = (refl, refl)

-- ---- the tuners are good, and take the blocks
tone_in : (n d : ℕ) (m : Mode) → ModeIn m → CourseIn (tone_for n d m)
unfolding tone_for fresh_take no_tone
tone_in n d m l =
    let r = unrefused-start defaults default_start in
    record {
      settings = r.1;
      hertz = r.0;
      keyboard = fresh_in;
      take = record { pitch = record { tone = fresh_sane.pitch.tone; lags = l; while_searching = λ e. refl }; bounds = behind_in_bounds {b = 0} (record { is = level (input_at n); near = omega arith }) };
    }
  where
    level : (z : ℤ) → z ≡ z -ℤ pos 0
    level z = solve (z ∷ []) (var 0) (var 0 ⊖ con (pos 0)) refl

searching_in : CourseIn searching_tone
searching_in = tone_in 1799 1 searching tt

found_in_lem : CourseIn found_tone
found_in_lem = tone_in 1804 20 (tracking 21 24) (record { from = omega arith; upto = omega arith; last_from = omega arith; last_upto = omega arith })

softened_in : CourseIn softened
unfolding course_after loud_only settings_number
softened_in = happened_in (new-settings loud_only) found_in_lem refl

-- after a take that is longer than what is kept
module _ {c : Course} (i : CourseIn c) (long : 1792 ≤ c.take.count) (short : c.take.count ≤ 1804) where
  long-good : Good (lead_after c default_tuner)
  unfolding lead_after silent_tuner fresh_numbers
  long-good =
      let t = c.take in
      let u = default_stays.0 in
      record {
        layout = refl;
        lead =
            record {
              settings = i.settings;
              hertz = i.hertz;
              keyboard = i.keyboard;
              heard =
                  record {
                    count = omega arith;
                    before = λ j h. absurd (omega arith);
                    eighths_before = λ j h. absurd (omega arith);
                    sums = right-alike (λ k h. sym (newest-sound kept_eighths t.eighths k (omega arith))) (listed-right t.eighths 2 eighth_lags);
                  };
              pitch = subst (PitchRight (sound_of (newest kept_samples t.sound))) (kept-newest t.pitch t.sound i.take.pitch) (kept-right t.pitch _ i.take.pitch);
              head = record { behind = (in_bounds_behind i.take.bounds).near };
              last = record { length = omega arith; within = omega arith };
            };
        listed = u.listed;
        list = later_in (omega arith) u.list;
        voices = u.voices;
      }

  module _ (xs : List ℤ) (some : 0 < length xs) (few : length xs ≤ 6) where
    long-taken : Verdict (lead_after c default_tuner) 0 xs (xs ∷ []) 0
    unfolding lead_after silent_tuner fresh_numbers Roomy parts
    long-taken = taken (record { good = long-good; nonempty = some; most = omega arith; room = (omega arith, tt) }) (λ l. omega (arith, l.0)) refl (omega arith)

    -- what keeps the promise takes the block, and leaves the period that the rules find
    long-gives : {t' : Tuner} {a : Answer} {zs : List ℤ} → Took (lead_after c default_tuner) 0 xs (xs ∷ []) [] t' a (zs ∷ []) [] → (a.number ≤ 1) × (t'.numbers.pitch.tone.period ≡ period_after c xs)
    unfolding lead_after
    long-gives p = (gives_it long-taken p, ap (λ (u : Tuner). u.numbers.pitch.tone.period) (tuner-is long-taken p ∙ block-after i default_tuner xs 0 []))

-- ---- each of the list
module _ {q : Program} (tried : TriedCuts q) where
  abbrev six : Done
  six = q searching_tuner 0 six_samples six_samples

  abbrev one : Done
  one = q found_tuner 0 one_sample one_sample

  abbrev soft : Done
  soft = q (changed found_tuner loud_only) 0 one_sample one_sample

  six-gives : (six.answer.number ≤ 1) × (six.tuner.numbers.pitch.tone.period ≡ period_after searching_tone six_samples)
  unfolding tone_for
  six-gives = long-gives searching_in (omega arith) (omega arith) six_samples (omega arith) (omega arith) tried.searches

  one-gives : (one.answer.number ≤ 1) × (one.tuner.numbers.pitch.tone.period ≡ period_after found_tone one_sample)
  unfolding tone_for
  one-gives = long-gives found_in_lem (omega arith) (omega arith) one_sample (omega arith) (omega arith) tried.steps

  soft-gives : (soft.answer.number ≤ 1) × (soft.tuner.numbers.pitch.tone.period ≡ period_after softened one_sample)
  unfolding tone_for course_after happened lead_after with_keys
  soft-gives = long-gives softened_in (omega arith) (omega arith) one_sample (omega arith) (omega arith) tried.otherwise

  not_by_place : StepsByPlace q → ⊥
  unfolding tone_for lead_after no_tone tracking_of
  not_by_place all =
      let kept = ap (λ (o : Tone). o.period) (all found_tuner 0 one_sample one_sample one-gives.0 (omega arith) refl) in omega (arith, kept, one-gives.1, period-tracked.0)

  not_at_the_end : SearchesAtTheEnd q → ⊥
  unfolding tone_for lead_after tracking_of
  not_at_the_end all = omega (arith, all searching_tuner 0 six_samples six_samples six-gives.0 refl, six-gives.1, period-found)

  not_late : SettingsLate q → ⊥
  not_late all =
      let same = ap (λ (v : KeptPitch). v.tone.period) (all found_tuner loud_only 0 one_sample one_sample soft-gives.0 one-gives.0) in
      omega (arith, same, soft-gives.1, one-gives.1, period-tracked.0, period-tracked.1)

pub cuts_shut_out : CutsShutOut
cuts_shut_out q tried = record { steps_by_place = not_by_place tried; searches_at_the_end = not_at_the_end tried; settings_late = not_late tried }
