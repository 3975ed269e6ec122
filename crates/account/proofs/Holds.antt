-- The proofs of the account, and that the cutting of a take does not matter: after any calls the lead is that of what happened in its take (`Keeps`), and the account is read off it.
use Rattle.std.specs.Prelude.{◌≡◌, ℕ, zero, suc, ◌+◌, ◌<◌, ℤ, pos, take, get_or}
use Rattle.std.proofs.Math.Path.{refl, sym, ap, subst}
use Rattle.std.proofs.Common.{◌∙◌, arith}
use mathlib.Core.List.{List, [], ◌∷◌, map}
use Rattle.std.proofs.Math.Nat.{zero-add}
use Rattle.std.proofs.Math.ListN.{length}
use Rattle.whole.specs.Ring.{var, con, ◌⊕◌, ◌⊖◌, solve}
use Rattle.rules.specs.Rules.{Sound, input_at, heard_all, fresh_take, stepped, after, samples_out, eighth_lags}
use Rattle.rules.specs.Facts.{InBounds, Right, WithoutPeriod, energies_of, correlations_of}
use Rattle.rules.proofs.Position.{behind_in_bounds}
use Rattle.rules.proofs.Sane.{always_in_bounds}
use Rattle.history.specs.History.{Event, sample, new-settings, byte, Course, fresh_course, force_at, happened, course_after, given_by, samples_in}
use Rattle.history.proofs.Courses.{course_hertz, course_count, course_sound, course_force}
use Rattle.history.proofs.Accounts.{account}
use Rattle.history.proofs.Unpitched.{without_period, four_late_lem}
use Rattle.pitch.specs.Pitches.{PitchRight, kept_of}
use Rattle.pitch.specs.Keeping.{listed-right, kept-right}
use Rattle.meters.specs.declared.Meter.{Meter}
use Rattle.meters.specs.Meters.{shown_of}
use Rattle.reports.specs.Reports.{figures_of}
use Rattle.voices.specs.Voices.{voice_outs, voice_rates, voice_cycles, voice_account}
use Rattle.voices.proofs.Accompanying.{voice_bounds}
use Rattle.record.specs.Records.{made}
use Rattle.record.specs.Kept.{eighths-next}
use Rattle.tuner.specs.declared.Voice.{Voice}
use Rattle.tuner.specs.declared.Tuner.{Tuner}
use Rattle.tuner.specs.Tuners.{take_of, force_of, voice_at, Good, stands_at, Metered, record_out_of_range, read}
use Rattle.staying.specs.Staying.{good-force, good_sane}
use Rattle.account.specs.Account.{Received, course_of, heard_of, eighths_of, voice_course, voiced_in, voiced_of, VoiceHolds, Accounted, received, Theorem, ToneTheorem, LateTheorem}
use Rattle.account.specs.Cutting.{lead_after, LeadTheorem, SameTake, output_at, Alike, CuttingTheorem}
use Rattle.account.proofs.Alongside.{course_account}
use Rattle.account.proofs.Following.{lead_agree}
use Rattle.account.specs.Keeps.{Keeps}
use Rattle.account.proofs.Keeps.{course_right, series-keeps}

pub lead-holds : LeadTheorem
lead-holds cs t h = (series-keeps h).is

-- ---- the account of what is kept

-- the eighth-rate samples of a course are those of its samples
eighths-from : (c : Course) (es : List Event) → (course_after c es).take.eighths ≡ heard_all c.take.eighths (made c.take.count c.take.sound (samples_in es))
unfolding course_after happened samples_in stepped made heard_all
eighths-from c [] = refl
eighths-from c (sample x ∷ es) = eighths-from (happened c (sample x)) es ∙ eighths-next c.take.count c.take.sound c.take.eighths x (samples_in es)
eighths-from c (new-settings s ∷ es) = eighths-from (happened c (new-settings s)) es
eighths-from c (byte b ∷ es) = eighths-from (happened c (byte b)) es

-- nothing given yet
level : input_at 0 ≡ voice_account (input_at 0) []
unfolding voice_rates voice_cycles
level = solve (input_at 0 ∷ []) (var 0) (var 0 ⊕ con (pos 0) ⊖ con (pos 0) ⊕ con (pos 0)) refl

module _ {r : Received} {t : Tuner} (k : Keeps r t) where
  abbrev start : Course
  start = fresh_course r.hertz r.settings

  eighths_are : (course_of r).take.eighths ≡ eighths_of r
  unfolding fresh_take
  eighths_are = eighths-from start r.events

  sound-is : (course_of r).take.sound ≡ heard_of r
  unfolding fresh_take
  sound-is = course_sound start r.events

  count-is : (course_of r).take.count ≡ length (samples_in r.events)
  unfolding fresh_take
  count-is = course_count start r.events ∙ zero-add _

  -- of a voice
  voice_holds : (j : ℕ) → j < t.numbers.chosen → VoiceHolds r t (voice_at t.numbers.voices j)
  unfolding take_of
  voice_holds j l =
      let v = voice_at t.numbers.voices j in
      let good = k.stays.0 in
      let here : InBounds t.numbers.count (stands_at t v) = behind_in_bounds (record { is = refl; near = (good.voices.each j l).behind }) in
      record {
        position = k.voices j l;
        account = k.voices j l ∙ course_account v.interval start (input_at 0) r.events (record { level = input_at 0; gave = [] }) level;
        bounds = here;
        within = λ xs. voice_bounds (force_of t) v.interval (take_of t) (stands_at t v) xs (good-force good) (good_sane good) here;
      }

  -- of the lead of what happened
  course_accounted : Good (lead_after (course_of r) t) → Accounted r (lead_after (course_of r) t)
  unfolding lead_after take_of
  course_accounted good =
      let c = course_of r in
      let right = course_right k in
      let pitch : PitchRight (heard_of r) (kept_of c.take.pitch c.take.sound) =
      subst (λ (x : Sound). PitchRight x (kept_of c.take.pitch c.take.sound)) sound-is (kept-right c.take.pitch c.take.sound right.take.pitch) in
      record {
        good = good;
        settings = refl;
        hertz = course_hertz start r.events;
        keyboard = refl;
        listed = k.listed;
        intervals = k.intervals;
        count = count-is;
        sums =
            subst (λ (x : Sound). Right x 2 eighth_lags (energies_of c.take.eighths 2 eighth_lags) (correlations_of c.take.eighths 2 eighth_lags)) eighths_are
            (listed-right c.take.eighths 2 eighth_lags);
        lags = λ e. pitch.sums e;
        position = sym (lead_agree right t).position ∙ account r.hertz r.settings r.events;
        figures = k.figures;
        wrote = k.wrote;
        bounds = (good_sane good).bounds;
        voices = λ j l. subst (λ (u : Tuner). VoiceHolds r u (voice_at t.numbers.voices j)) k.is (voice_holds j l);
        within = λ xs. subst (λ (m : ℕ). InBounds (m + length xs) (after (force_at c) c.take xs).position) count-is (always_in_bounds (course_force right) right.take xs);
      }

  kept-accounted : Accounted r t
  kept-accounted = subst (Accounted r) (sym k.is) (course_accounted (subst Good k.is k.stays.0))

pub holds : Theorem
holds cs t h = kept-accounted (series-keeps h)

pub tone-holds : ToneTheorem
unfolding lead_after
tone-holds cs t h =
    let r = received cs in
    subst (λ (u : Tuner). WithoutPeriod u.numbers.pitch.tone) (sym (series-keeps h).is) (without_period r.hertz r.settings r.events)

pub late_holds : LateTheorem
late_holds cs t h b n = let r = received cs in ap (λ (ws : List (List ℤ)). get_or ws 0 []) (series-keeps h).wrote ∙ four_late_lem r.hertz r.settings r.events b n

-- ---- the cutting does not matter

-- a good tuner's meter shows what its sample rate and pitch make of it
meter_shows : {t : Tuner} {m : Meter} → Good t → Metered t m → m ≡ shown_of t.numbers.hertz t.numbers.pitch
meter_shows g (record_out_of_range n e) = absurd (n g)
meter_shows g (read h e x) = e

-- what chosen voice j wrote
voice_output : {r : Received} {t : Tuner} → Keeps r t → (j : ℕ) → j < t.numbers.chosen → output_at r.wrote (1 + j) ≡ voice_outs (voiced_of (voice_at t.numbers.voices j).interval r)
voice_output {r} {t} k j h =
    let n = t.numbers in
    let next : 1 + j ≡ suc j = omega arith in
    (λ i. output_at (k.wrote i) (next i)) ∙ ap (λ (is : List ℕ). get_or (map (λ (i : ℕ). voice_outs (voiced_of i r)) is) j []) (sym k.intervals)
    ∙ at n.chosen n.voices j h (omega (arith, k.stays.1.voices, k.stays.0.voices.few))
  where
    at : (m : ℕ) (vs : List Voice) (j : ℕ) → j < m → j < length vs → get_or (map (λ (i : ℕ). voice_outs (voiced_of i r)) (map (λ (v : Voice). v.interval) (take m vs))) j [] ≡ voice_outs (voiced_of (voice_at vs j).interval r)
    at zero vs j h l = absurd (omega arith)
    at (suc m) [] j h l = absurd (omega arith)
    at (suc m) (v ∷ vs) zero h l = refl
    at (suc m) (v ∷ vs) (suc j) h l = at m vs j (omega arith) (omega arith)

module _ {r r' : Received} {t t' : Tuner} (k : Keeps r t) (k' : Keeps r' t') (same : SameTake r r') where
  course_same : course_of r ≡ course_of r'
  course_same i = course_after (fresh_course (same.hertz i) (same.settings i)) (same.events i)

  -- a part that is the course's is the same
  part_same : {A : Type 0} (part : Tuner → A) → part (lead_after (course_of r') t) ≡ part (lead_after (course_of r') t') → part t ≡ part t'
  part_same part e = ap part k.is ∙ ap (λ (c : Course). part (lead_after c t)) course_same ∙ e ∙ sym (ap part k'.is)

  take-alike : Alike r r' t t'
  unfolding lead_after
  take-alike =
      let hertz : t.numbers.hertz ≡ t'.numbers.hertz = part_same (λ (u : Tuner). u.numbers.hertz) refl in
      let pitch = part_same (λ (u : Tuner). u.numbers.pitch) refl in
      record {
        figures = k.figures ∙ (λ i. figures_of (given_by (fresh_course (same.hertz i) (same.settings i)) (same.events i))) ∙ sym k'.figures;
        lead = ap (λ (ws : List (List ℤ)). output_at ws 0) k.wrote ∙ (λ i. samples_out (given_by (fresh_course (same.hertz i) (same.settings i)) (same.events i))) ∙ sym (ap (λ (ws : List (List ℤ)). output_at ws 0) k'.wrote);
        meter = λ p p'. meter_shows k.stays.0 p ∙ (λ i. shown_of (hertz i) (pitch i)) ∙ sym (meter_shows k'.stays.0 p');
        settings = part_same (λ (u : Tuner). u.numbers.settings) refl;
        hertz = hertz;
        keyboard = part_same (λ (u : Tuner). u.numbers.keyboard) refl;
        count = part_same (λ (u : Tuner). u.numbers.count) refl;
        pitch = pitch;
        behind = part_same (λ (u : Tuner). u.numbers.behind) refl;
        energies = part_same (λ (u : Tuner). u.energies) refl;
        correlations = part_same (λ (u : Tuner). u.correlations) refl;
        heard = part_same (λ (u : Tuner). u.heard) refl;
        eighths = part_same (λ (u : Tuner). u.eighths) refl;
        voices = λ i j l l' e. (
          voice_output k i l ∙ (λ m. voice_outs (voiced_in (e m) (fresh_course (same.hertz m) (same.settings m)) (input_at 0) (same.events m))) ∙ sym (voice_output k' j l'),
          k.voices i l ∙ (λ m. voice_course (e m) (fresh_course (same.hertz m) (same.settings m)) (input_at 0) (same.events m)) ∙ sym (k'.voices j l'),
        );
      }

pub cutting-holds : CuttingTheorem
cutting-holds cs cs' t t' h h' same = take-alike (series-keeps h) (series-keeps h') same
