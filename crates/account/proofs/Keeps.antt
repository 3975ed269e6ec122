-- After any calls the lead of a tuner is that of what happened in its take, and what the answers count and what was written add up to what the rules give (`Keeps`).
-- A night is its single calls: a first block that is given again adds nothing, and behind it none is given again, since its number is not the last one's.
use Rattle.std.specs.Prelude.{◌≡◌, ℕ, zero, suc, ◌+◌, ◌≤◌, ◌<◌, eqb, pos, ◌-ℤ◌, length, drop}
use Rattle.std.proofs.Math.Path.{refl, sym, ap, subst, transport}
use Rattle.std.proofs.Common.{◌∙◌, add-zero, zero-add, add_assoc, length-drop, take-append-drop, take_at, length-take-le}
use mathlib.Core.List.{List, [], ◌∷◌, ◌++◌, append-nil, append_assoc, map, map-map, flatten}
use native.Mathlib.Omega.{arith}
use borrow.Author.Tests.{eqb-true, eqb-false}
use Rattle.std.proofs.Math.IntN.{ℤ, +ℤ_idr}
use Rattle.std.proofs.Math.ListN.{take}
use Rattle.std.proofs.lemmas.List.{length-map}
use Rattle.std.proofs.Math.Seq.{take-length, take-append-add, drop-append_seam}
use Rattle.whole.specs.Tests.{by, cond_case, cond_yes, cond_no}
use Rattle.rules.specs.declared.Settings.{Settings}
use Rattle.rules.specs.Rules.{input_at, gives, samples_out, defaults, cd_rate}
use Rattle.rules.proofs.Ranges.{unrefused-start, default_start}
use Rattle.rules.specs.Facts.{InRange, SampleRate, InBounds}
use Rattle.rules.proofs.Position.{behind_in_bounds, in_bounds_behind}
use Rattle.rules.proofs.Blocks.{given-length, gives-length}
use Rattle.history.specs.History.{Event, sample, new-settings, byte, Course, fresh_course, course_after, given_by}
use Rattle.history.specs.Courses.{CourseIn, EventsIn}
use Rattle.history.proofs.Courses.{course_force, course_after-append, given_by-append, given-bytes, course_hertz, fresh_course_in, course_in, events_in_append, samples_in_lem, bytes_in}
use Rattle.reports.specs.declared.Figures.{Figures}
use Rattle.reports.specs.Reports.{figures_of, added, no_figures}
use Rattle.reports.proofs.Counting.{figures-append, figures-none}
use Rattle.voices.specs.Voices.{voice_after, voice_gives, voice_outs}
use Rattle.voices.proofs.Accompanying.{voice_bounds}
use Rattle.record.specs.Records.{heard_after}
use Rattle.singers.specs.Singers.{kept_interval}
use Rattle.singers.specs.Voicing.{number-says}
use Rattle.tuner.specs.declared.Voice.{Voice}
use Rattle.tuner.specs.declared.Tuner.{Tuner}
use Rattle.tuner.specs.declared.Answer.{Answer}
use Rattle.tuner.specs.Tuners.{take_of, force_of, voice_at, VoiceIn, stands_at, voice_beside, voice_out, outs_beside, kept_outs, Roomy, written, level_voice, chosen_voices, fresh_numbers, silent_tuner, fresh_tuner, default_tuner, after_block, IsLast, Verdict, record_out_of_range, block_empty, block_over_512, output_short, number-neither, other-samples, given-again, take-full, taken, counted, Took, kept_list, Started, Done, with_numbers, with_keys, with_settings, with_bytes, begun_again, Changed, Keyed, Reset}
use Rattle.tuner.proofs.Verdicts.{verdict-fits, after_last}
use Rattle.tuner.proofs.Outputs.{roomy_same, room_after}
use Rattle.staying.specs.Staying.{Stays, good-force, good_sane, beside_at, voice_length, lead_out_length, voice_out_length, default_stays, begin_says, own_number, took-stays, changed-stays, keyed_stays, started_stays, begun-stays, took_number, took-keeps, took-taken, untaken_unchanged}
use Rattle.nights.specs.declared.NightAnswer.{NightAnswer}
use Rattle.nights.specs.Night as Night
use Rattle.nights.specs.Night.{first_stretches, number_after, before, OneByOne, all_done, and_on, refused, added_by, Untouched, Nighted}
use Rattle.account.specs.Account.{Call, Leaves, by-start, by-change, by-block, by-night, by-midi, by-reset, by-meter, Series, fresh_start, and_then, Received, begun, course_of, given_of, with_events, onward, with_samples, counted_by, counted_in, if_taken, plus, received, voice_course, voiced_in, voice_of, voiced_of, outs_of}
use Rattle.account.proofs.Alongside.{voice_course-append, samples_move, samples_give, bytes_leave, voice_alike}
use Rattle.account.specs.Written.{lead_out}
use Rattle.account.proofs.Written.{onward-none, onward-before, onward-behind, lead-more, voice_more, outs-same, rest-many, kept-room, kept-after, all-written}
use Rattle.account.specs.Cutting.{lead_after}
use Rattle.account.proofs.Following.{lead_agree, fresh-after, block-gives, block-after, change-after, bytes_after}
use Rattle.account.specs.Keeps.{Carried, Keeps, MovedBy, chosen_of, more, more_samples}

-- ---- a fresh tuner
silent-keeps : (hertz : ℕ) (s : Settings) (listed chosen : ℕ) (vs : List Voice) (is : List ℕ) → SampleRate hertz → InRange s → Stays (silent_tuner (fresh_numbers hertz s listed chosen vs))
    → map (λ (v : Voice). v.interval) (take chosen vs) ≡ is → ((j : ℕ) → (voice_at vs j).behind ≡ 0) → Keeps (begun hertz s listed is) (silent_tuner (fresh_numbers hertz s listed chosen vs))
unfolding silent_tuner fresh_numbers course_after given_by voice_course voiced_in samples_out voice_outs
silent-keeps hertz s listed chosen vs is rate e g same level =
    record { stays = g; began = fresh_course_in rate e; ranges = tt; is = fresh-after hertz s listed chosen vs; listed = refl; intervals = same; figures = sym figures-none; wrote = refl; voices = λ j h. ap (λ (b : ℕ). input_at 0 -ℤ pos b) (level j) ∙ +ℤ_idr (input_at 0) }

chosen-intervals : (zs : List ℤ) → length zs ≤ 3 → map (λ (v : Voice). v.interval) (take (length zs) (chosen_voices zs)) ≡ map kept_interval zs
unfolding chosen_voices
chosen-intervals [] h = refl
chosen-intervals (a ∷ []) h = refl
chosen-intervals (a ∷ b ∷ []) h = refl
chosen-intervals (a ∷ b ∷ c ∷ []) h = refl
chosen-intervals (a ∷ b ∷ c ∷ d ∷ zs) h = absurd (omega arith)

chosen-level : (zs : List ℤ) (j : ℕ) → (voice_at (chosen_voices zs) j).behind ≡ 0
unfolding chosen_voices
chosen-level zs zero = refl
chosen-level zs (suc zero) = refl
chosen-level zs (suc (suc zero)) = refl
chosen-level zs (suc (suc (suc j))) = refl

default_keeps : Keeps (begun cd_rate defaults 0 []) default_tuner
default_keeps = let r = unrefused-start defaults default_start in silent-keeps cd_rate defaults 0 0 (chosen_voices []) [] r.0 r.1 default_stays refl (chosen-level [])

start-keeps : {hertz : ℕ} {s : Settings} {listed : ℕ} {zs : List ℤ} {store : List ℕ} {t' : Tuner} {v : ℕ}
    → Started hertz s listed zs store t' v → Keeps (if_taken v (begun hertz s (kept_list listed) (map kept_interval zs)) (begun cd_rate defaults 0 [])) t'
start-keeps {hertz} {s} {listed} {zs} {store} {t'} {v} p =
    by (eqb v 0)
    (λ e. let q = begin_says hertz s listed zs (length store) (sym p.number ∙ eqb-true v 0 e) in
    let r = unrefused-start s q.0 in
    let is : t' ≡ fresh_tuner hertz s (kept_list listed) zs = p.tuner ∙ cond_yes (fresh_tuner hertz s (kept_list listed) zs) default_tuner e in
    rw e
    (subst (λ (u : Tuner). Keeps (begun hertz s (kept_list listed) (map kept_interval zs)) u) (sym is)
    (silent-keeps hertz s (kept_list listed) (length zs) (chosen_voices zs) (map kept_interval zs) r.0 r.1 (subst Stays is (started_stays p)) (chosen-intervals zs (number-says zs q.1).1) (chosen-level zs))))
    (λ e. rw e (subst (λ (u : Tuner). Keeps (begun cd_rate defaults 0 []) u) (sym (p.tuner ∙ cond_no (fresh_tuner hertz s (kept_list listed) zs) default_tuner e)) default_keeps))

-- nothing counted
added_none : (f : Figures) → added f no_figures ≡ f
unfolding added
added_none f = λ i. record { samples = add-zero f.samples i; pitched = add-zero f.pitched i; repeated = add-zero f.repeated i; dropped = add-zero f.dropped i; sum = add-zero f.sum i }

none-added : (f : Figures) → added no_figures f ≡ f
unfolding added
none-added f = λ i. record { samples = zero-add f.samples i; pitched = zero-add f.pitched i; repeated = zero-add f.repeated i; dropped = zero-add f.dropped i; sum = zero-add f.sum i }

added-assoc : (f g h : Figures) → added (added f g) h ≡ added f (added g h)
unfolding added
added-assoc f g h =
    λ i. record {
      samples = add_assoc f.samples g.samples h.samples i;
      pitched = add_assoc f.pitched g.pitched h.pitched i;
      repeated = add_assoc f.repeated g.repeated h.repeated i;
      dropped = add_assoc f.dropped g.dropped h.dropped i;
      sum = add_assoc f.sum g.sum h.sum i;
    }

more-none : (r : Received) (os : List (List ℤ)) → more_samples r 0 [] no_figures os ≡ r
more-none r os = λ i. record { hertz = r.hertz; settings = r.settings; listed = r.listed; intervals = r.intervals; events = append-nil r.events i; figures = added_none r.figures i; wrote = onward-none 0 r.wrote os i }

-- samples, and more samples after them
more-more : (r : Received) (xs ys : List ℤ) (f g : Figures) (ws vs us : List (List ℤ)) → vs ≡ us → more (more r (map sample xs) f ws) (map sample ys) g vs ≡ more r (map sample (xs ++ ys)) (added f g) us
more-more r xs ys f g ws vs us e =
    λ i. record {
      hertz = r.hertz;
      settings = r.settings;
      listed = r.listed;
      intervals = r.intervals;
      events = (append_assoc r.events (map sample xs) (map sample ys) ∙ ap (λ (es : List Event). r.events ++ es) (joined xs)) i;
      figures = added-assoc r.figures f g i;
      wrote = e i;
    }
  where
    joined : (xs : List ℤ) → map sample xs ++ map sample ys ≡ map sample (xs ++ ys)
    joined [] = refl
    joined (x ∷ xs) = ap (λ (es : List Event). sample x ∷ es) (joined xs)

-- the lead of a tuner is its own
along : (d : Course) {t u : Tuner} → t ≡ u → u ≡ lead_after d u → t ≡ lead_after d t
along d e p = subst (λ (v : Tuner). v ≡ lead_after d v) (sym e) p

module _ {r : Received} {t : Tuner} (k : Keeps r t) where
  pub course_right : CourseIn (course_of r)
  course_right = course_in r.events k.began k.ranges

  module _ (es : List Event) (q : EventsIn es) {t' : Tuner} (g : Stays t') (l : t'.numbers.listed ≡ t.numbers.listed) (v : chosen_of t' ≡ chosen_of t) (e : t' ≡ lead_after (course_after (course_of r) es) t')
      (w : MovedBy r es t') where
    is-more : t' ≡ lead_after (course_after (fresh_course r.hertz r.settings) (r.events ++ es)) t'
    is-more = e ∙ ap (λ (c : Course). lead_after c t') (sym (course_after-append (fresh_course r.hertz r.settings) r.events es))

    given-more : given_by (fresh_course r.hertz r.settings) (r.events ++ es) ≡ given_of r ++ given_by (course_of r) es
    given-more = given_by-append (fresh_course r.hertz r.settings) r.events es

    more-keeps : {f : Figures} {ws : List (List ℤ)} → f ≡ figures_of (given_by (course_of r) es) → ws ≡ outs_of (with_events r es) → Keeps (more r es f ws) t'
    more-keeps f o =
        record {
          stays = g;
          began = k.began;
          ranges = events_in_append r.events es k.ranges q;
          is = is-more;
          listed = l ∙ k.listed;
          intervals = v ∙ k.intervals;
          figures = (λ i. added (k.figures i) (f i)) ∙ sym (ap figures_of given-more ∙ figures-append (given_of r) (given_by (course_of r) es));
          wrote = o;
          voices = λ j h. w j h ∙ sym (voice_course-append (voice_at t'.numbers.voices j).interval (fresh_course r.hertz r.settings) (input_at 0) r.events es);
        }

    -- no sample among it
    events_keep : given_by (course_of r) es ≡ [] → ((i : ℕ) → voiced_in i (course_of r) (voice_of i r) es ≡ []) → Keeps (with_events r es) t'
    events_keep none quiet =
        subst (λ (f : Figures). Keeps (record { hertz = r.hertz; settings = r.settings; listed = r.listed; intervals = r.intervals; events = r.events ++ es; figures = f; wrote = r.wrote }) t') (added_none r.figures)
        (more-keeps (sym (ap figures_of none ∙ figures-none)) (k.wrote ∙ sym (outs-same r es none quiet)))

  -- ---- a block taken
  beside-intervals : (f : Voice → Voice) → ((v : Voice) → (f v).interval ≡ v.interval) → (n : ℕ) (vs : List Voice)
      → map (λ (v : Voice). v.interval) (take n (map f (take n vs) ++ drop n vs)) ≡ map (λ (v : Voice). v.interval) (take n vs)
  beside-intervals f e zero vs = refl
  beside-intervals f e (suc n) [] = refl
  beside-intervals f e (suc n) (v ∷ vs) = λ i. e v i ∷ beside-intervals f e n vs i

  -- each voice goes on as over the whole take
  voice_goes : (xs : List ℤ) (v : Voice) → VoiceIn v → stands_at t v ≡ voice_of v.interval r
      → (voice_after (force_of t) v.interval (take_of t) (stands_at t v) xs ≡ voice_course v.interval (course_of r) (voice_of v.interval r) (map sample xs))
      × (voice_gives (force_of t) v.interval (take_of t) (stands_at t v) xs ≡ voiced_in v.interval (course_of r) (voice_of v.interval r) (map sample xs))
  unfolding lead_after
  voice_goes xs v i e =
      let c = course_of r in
      let here : InBounds t.numbers.count (stands_at t v) = behind_in_bounds (record { is = refl; near = i.behind }) in
      let level : InBounds c.take.count (stands_at t v) = subst (λ (m : ℕ). InBounds m (stands_at t v)) (ap (λ (u : Tuner). u.numbers.count) k.is) here in
      let same = voice_alike (course_force course_right) v.interval course_right.take (lead_agree course_right t) level xs in (
        ap (λ (u : Tuner). voice_after (force_of u) v.interval (take_of u) (stands_at t v) xs) k.is
            ∙ sym same.0
            ∙ sym (samples_move v.interval c (stands_at t v) xs)
            ∙ ap (λ (z : ℤ). voice_course v.interval c z (map sample xs)) e,
        ap (λ (u : Tuner). voice_gives (force_of u) v.interval (take_of u) (stands_at t v) xs) k.is
            ∙ sym same.1
            ∙ sym (samples_give v.interval c (stands_at t v) xs)
            ∙ ap (λ (z : ℤ). voiced_in v.interval c z (map sample xs)) e,
      )

  -- as many outputs as there are lead and chosen voices
  wrote-many : length r.wrote ≡ 1 + t.numbers.chosen
  wrote-many =
      let n = t.numbers in
      let three = k.stays.1.voices in
      let few = k.stays.0.voices.few in
      ap length k.wrote
      ∙ omega (arith, length-map r.intervals (λ (i : ℕ). voice_outs (voiced_of i r)), ap length k.intervals, length-map (take n.chosen n.voices) (λ (v : Voice). v.interval), length-take-le n.chosen n.voices (omega arith))

  module _ {n : ℕ} {xs : List ℤ} {os os' : List (List ℤ)} {store store' : List ℕ} {t' : Tuner} {a : Answer} (p : Took t n xs os store t' a os' store') where
    chosen-same : t'.numbers.chosen ≡ t.numbers.chosen
    chosen-same =
        ap (λ (u : Tuner). u.numbers.chosen) p.tuner
        ∙ cond_case (eqb p.number 0) (after_block t n xs store) t (λ (u : Tuner). u.numbers.chosen ≡ t.numbers.chosen) (λ e. (after_last t n xs store).1) (λ e. refl)

    -- what was taken or given again stands in the outputs
    pub wrote-room : a.number ≤ 1 → Roomy (length xs) r.wrote os'
    wrote-room h =
        let f = verdict-fits p.verdict (omega (arith, took_number p)) in
        let room = room_after t t'.outs os (length xs) t'.numbers.chosen (length xs) refl chosen-same f.room in
        rw (took-keeps p h).1 (kept-room (took-stays k.stays.0 k.stays.1 p) (length xs) r.wrote os f.most (wrote-many ∙ ap (λ (m : ℕ). 1 + m) (sym chosen-same)) room)

    module _ (z : a.number ≡ 0) where
      taken_is : t' ≡ after_block t n xs store
      taken_is = (took-taken p z).0

      taken-lead : t' ≡ lead_after (course_after (course_of r) (map sample xs)) t'
      taken-lead = along (course_after (course_of r) (map sample xs)) (taken_is ∙ ap (λ (u : Tuner). after_block u n xs store) k.is) (block-after course_right t xs n store)

      pub gives-is : gives (force_of t) (take_of t) xs ≡ given_by (course_of r) (map sample xs)
      gives-is = ap (λ (u : Tuner). gives (force_of u) (take_of u) xs) k.is ∙ block-gives course_right t xs

      counted_is : counted_by a ≡ figures_of (given_by (course_of r) (map sample xs))
      unfolding after_block figures_of
      counted_is =
          let g = gives (force_of t) (take_of t) xs in
          let f = figures_of g in
          ap counted_by (took-keeps p (omega arith)).0
          ∙ ap (λ (u : Tuner). counted_by (counted 0 (length xs) u.numbers)) taken_is
          ∙ (λ i. record { samples = sym (given-length (force_of t) (take_of t) xs) i; pitched = f.pitched; repeated = f.repeated; dropped = f.dropped; sum = f.sum })
          ∙ ap figures_of gives-is

      voice_moved : (v : Voice) → VoiceIn v → stands_at t v ≡ voice_of v.interval r → stands_at (after_block t n xs store) (voice_beside t xs v) ≡ voice_course v.interval (course_of r) (voice_of v.interval r) (map sample xs)
      unfolding after_block heard_after take_of
      voice_moved v i e =
          let here : InBounds t.numbers.count (stands_at t v) = behind_in_bounds (record { is = refl; near = i.behind }) in
          sym (in_bounds_behind (voice_bounds (force_of t) v.interval (take_of t) (stands_at t v) xs (good-force k.stays.0) (good_sane k.stays.0) here)).is ∙ (voice_goes xs v i e).0

      taken-moved : MovedBy r (map sample xs) (after_block t n xs store)
      unfolding after_block
      taken-moved j h =
          let m = t.numbers in
          let at = beside_at (voice_beside t xs) m.chosen m.voices j h (omega (arith, k.stays.1.voices, k.stays.0.voices.few)) in
          subst (λ (v : Voice). stands_at (after_block t n xs store) v ≡ voice_course v.interval (course_of r) (voice_of v.interval r) (map sample xs)) (sym at)
          (voice_moved (voice_at m.voices j) (k.stays.0.voices.each j h) (k.voices j h))

      pub taken-length : a.written ≡ length xs
      taken-length = ap (λ (b : Answer). b.written) (took-keeps p (omega arith)).0

      -- the lead's samples out, and a voice's, come behind those before them
      lead-wrote : samples_out (given_of r) ++ take (length xs) (lead_out t xs) ≡ samples_out (given_of (with_events r (map sample xs)))
      lead-wrote =
          ap (λ (zs : List ℤ). samples_out (given_of r) ++ zs) (take_at (samples_out (gives (force_of t) (take_of t) xs)) _ (length xs) (gives-length (force_of t) (take_of t) xs) ∙ ap samples_out gives-is)
          ∙ sym (lead-more r (map sample xs))

      voice_wrote : (v : Voice) → VoiceIn v → stands_at t v ≡ voice_of v.interval r → voice_outs (voiced_of v.interval r) ++ take (length xs) (voice_out t xs v) ≡ voice_outs (voiced_of v.interval (with_events r (map sample xs)))
      voice_wrote v i e =
          let gave = voice_gives (force_of t) v.interval (take_of t) (stands_at t v) xs in
          ap (λ (zs : List ℤ). voice_outs (voiced_of v.interval r) ++ zs)
          (take_at (voice_outs gave) _ (length xs) (voice_length (force_of t) v.interval (take_of t) (stands_at t v) xs) ∙ ap voice_outs (voice_goes xs v i e).1)
          ∙ sym (voice_more r (map sample xs) v.interval)

      each_same : (f g : Voice → List ℤ) (m : ℕ) (vs : List Voice) → ((j : ℕ) → j < m → f (voice_at vs j) ≡ g (voice_at vs j)) → m ≤ length vs → map f (take m vs) ≡ map g (take m vs)
      each_same f g zero vs e h = refl
      each_same f g (suc m) [] e h = refl
      each_same f g (suc m) (v ∷ vs) e h = λ i. e 0 (omega arith) i ∷ each_same f g m vs (λ j l. e (suc j) (omega arith)) (omega arith) i

      taken-wrote : onward 0 a.written r.wrote os' ≡ outs_of (with_events r (map sample xs))
      unfolding after_block
      taken-wrote =
          let m = t.numbers in
          let f = verdict-fits p.verdict (omega (arith, took_number p)) in
          let vs = take m.chosen m.voices in
          let kept = kept-after k.stays n xs store f.most in
          let was : Voice → List ℤ = λ v. voice_outs (voiced_of v.interval r) in
          let new : Voice → List ℤ = λ v. voice_outs (voiced_of v.interval (with_events r (map sample xs))) in
          let wrote : os' ≡ written (length xs) (lead_out t xs ∷ map (voice_out t xs) vs) os = (took-keeps p (omega arith)).1 ∙ (λ i. written (length xs) ((ap kept_outs taken_is ∙ kept) i) os) in
          let before : r.wrote ≡ samples_out (given_of r) ∷ map was vs =
          k.wrote ∙ (λ i. samples_out (given_of r) ∷ (ap (map (λ (i : ℕ). voice_outs (voiced_of i r))) (sym k.intervals) ∙ map-map _ _ vs) i) in
          (λ i. onward 0 (taken-length i) (before i) (wrote i))
          ∙ all-written (samples_out (given_of r)) (lead_out t xs) was (voice_out t xs) (length xs) (omega (arith, lead_out_length t xs f.most, f.most)) (λ v. omega (arith, voice_out_length t xs f.most v, f.most)) vs os
          (subst (λ (ks : List (List ℤ)). Roomy (length xs) ks os) kept (roomy_same (length xs) (1 + m.chosen) t.outs (outs_beside t xs) os f.room))
          ∙ (λ i. lead-wrote i
          ∷ (each_same (λ (v : Voice). was v ++ take (length xs) (voice_out t xs v)) new m.chosen m.voices (λ j h. voice_wrote (voice_at m.voices j) (k.stays.0.voices.each j h) (k.voices j h)) (omega (arith, k.stays.1.voices, k.stays.0.voices.few))
          ∙ sym (ap (map (λ (i : ℕ). voice_outs (voiced_of i (with_events r (map sample xs))))) (sym k.intervals) ∙ map-map _ _ vs)) i)

      pub taken-keeps : Keeps (more_samples r a.written xs (counted_by a) os') t'
      unfolding after_block
      taken-keeps =
          more-keeps (map sample xs) (samples_in_lem xs) (took-stays k.stays.0 k.stays.1 p) (ap (λ (u : Tuner). u.numbers.listed) taken_is)
          (ap chosen_of taken_is ∙ beside-intervals _ (λ v. refl) t.numbers.chosen t.numbers.voices) taken-lead (subst (MovedBy r (map sample xs)) (sym taken_is) taken-moved) counted_is taken-wrote

      -- and samples of ys behind them, in the same outputs
      more-on : (c : Figures) (ys : List ℤ) (qs : List (List ℤ)) → length qs ≡ length os'
          → more_samples (more_samples r a.written xs (counted_by a) os') c.samples (take c.samples ys) c qs
          ≡ more_samples r (a.written + c.samples) (take (a.written + c.samples) (xs ++ ys)) (added (counted_by a) c) (before (length xs) os' qs)
      more-on c ys qs e =
          let m = c.samples in
          let joined : take (a.written + m) (xs ++ ys) ≡ xs ++ take m ys = ap (λ (l : ℕ). take (l + m) (xs ++ ys)) taken-length ∙ take-append-add xs ys m in
          let wrote : onward 0 m (onward 0 a.written r.wrote os') qs ≡ onward 0 (a.written + m) r.wrote (before (length xs) os' qs) =
          ap (λ (l : ℕ). onward 0 m (onward 0 l r.wrote os') qs) taken-length
          ∙ sym (onward-before (length xs) m r.wrote os' qs (wrote-room (omega arith)) e)
          ∙ ap (λ (l : ℕ). onward 0 (l + m) r.wrote (before (length xs) os' qs)) (sym taken-length) in
          more-more r xs (take m ys) (counted_by a) c (onward 0 a.written r.wrote os') _ _ wrote
          ∙ ap (λ (zs : List ℤ). more_samples r (a.written + m) zs (added (counted_by a) c) (before (length xs) os' qs)) (sym joined)

    untaken_keeps : 0 < a.number → Keeps r t'
    untaken_keeps h = subst (Keeps r) (sym (untaken_unchanged p h).0) k

    block-keeps : Keeps (if_taken a.number (with_samples r 0 a.written xs (counted_by a) os') r) t'
    block-keeps =
        cond_case (eqb a.number 0) (with_samples r 0 a.written xs (counted_by a) os') r (λ (q : Received). Keeps q t')
        (λ e. let z = eqb-true a.number 0 e in subst (λ (ys : List ℤ). Keeps (more_samples r a.written ys (counted_by a) os') t') (sym (ap (λ (m : ℕ). take m xs) (taken-length z) ∙ take-length xs)) (taken-keeps z))
        (λ e. let some = eqb-false a.number 0 e in untaken_keeps (omega arith))

  -- ---- the other calls: taken, they leave u; refused, all is as it was
  if_taken_lem : {own v : ℕ} {u t' : Tuner} (r' : Received) → Done own t u t' v → (v ≡ 0 → t' ≡ u → Keeps r' t') → Keeps (if_taken v r' r) t'
  if_taken_lem {v = v} {u} {t'} r' p left =
      cond_case (eqb v 0) r' r (λ (q : Received). Keeps q t')
      (λ f. left (eqb-true v 0 f) (p.tuner ∙ cond_yes u t f))
      (λ f. subst (Keeps r) (sym (p.tuner ∙ cond_no u t f)) k)

  change-keeps : (s : Settings) {t' : Tuner} {v : ℕ} → Changed t s t' v → Keeps (if_taken v (with_events r (new-settings s ∷ [])) r) t'
  unfolding given_by with_keys voice_course voiced_in
  change-keeps s {t'} p =
      if_taken_lem (with_events r (new-settings s ∷ [])) p
      (λ z e.
      events_keep (new-settings s ∷ []) (sym (own_number k.stays.0 k.stays.1 p.number) ∙ z, tt) (changed-stays k.stays.0 k.stays.1 s p)
      (ap (λ (u : Tuner). u.numbers.listed) e) (ap chosen_of e)
      (along (course_after (course_of r) (new-settings s ∷ [])) (e ∙ ap (λ (u : Tuner). with_numbers u (with_settings u.numbers s)) k.is) (change-after (course_of r) t s))
      (subst (MovedBy r (new-settings s ∷ [])) (sym e) k.voices) refl (λ i. refl))

  midi-keeps : (bytes : List ℕ) {t' : Tuner} {v : ℕ} → Keyed t bytes t' v → Keeps (if_taken v (with_events r (map byte bytes)) r) t'
  unfolding with_keys
  midi-keeps bytes {t'} p =
      if_taken_lem (with_events r (map byte bytes)) p
      (λ z e.
      events_keep (map byte bytes) (bytes_in bytes) (keyed_stays k.stays.0 k.stays.1 bytes p) (ap (λ (u : Tuner). u.numbers.listed) e) (ap chosen_of e)
      (along (course_after (course_of r) (map byte bytes)) (e ∙ ap (λ (u : Tuner). with_numbers u (with_bytes u.numbers bytes)) k.is) (bytes_after (course_of r) t bytes))
      (subst (MovedBy r (map byte bytes)) (sym e) (λ j h. k.voices j h ∙ sym (bytes_leave (voice_at t.numbers.voices j).interval (course_of r) _ bytes).0)) (given-bytes (course_of r) bytes) (λ i. (bytes_leave i (course_of r) (voice_of i r) bytes).1))

  -- settings and sample rate are the course's
  settings_are : t.numbers.settings ≡ (course_of r).settings
  unfolding lead_after
  settings_are = ap (λ (u : Tuner). u.numbers.settings) k.is

  hertz-is : t.numbers.hertz ≡ r.hertz
  unfolding lead_after
  hertz-is = ap (λ (u : Tuner). u.numbers.hertz) k.is ∙ course_hertz (fresh_course r.hertz r.settings) r.events

  level-intervals : (n : ℕ) (vs : List Voice) → map (λ (v : Voice). v.interval) (take n (map (λ (v : Voice). level_voice v.interval) vs)) ≡ map (λ (v : Voice). v.interval) (take n vs)
  level-intervals zero vs = refl
  level-intervals (suc n) [] = refl
  level-intervals (suc n) (v ∷ vs) = ap (λ (is : List ℕ). v.interval ∷ is) (level-intervals n vs)

  level-behind : (vs : List Voice) (j : ℕ) → (voice_at (map (λ (v : Voice). level_voice v.interval) vs) j).behind ≡ 0
  level-behind [] j = refl
  level-behind (v ∷ vs) zero = refl
  level-behind (v ∷ vs) (suc j) = level-behind vs j

  reset-keeps : (store : List ℕ) {t' : Tuner} {v : ℕ} → Reset t store t' v → Keeps (if_taken v (begun r.hertz (course_of r).settings r.listed r.intervals) r) t'
  unfolding begun_again
  reset-keeps store {t'} p =
      let n = t.numbers in
      let level = map (λ (v : Voice). level_voice v.interval) n.voices in
      if_taken_lem (begun r.hertz (course_of r).settings r.listed r.intervals) p
      (λ z e.
      rw (e, sym settings_are, sym hertz-is, sym k.listed)
      (silent-keeps n.hertz n.settings n.listed n.chosen level r.intervals k.stays.0.lead.hertz k.stays.0.lead.settings (begun-stays k.stays.0 k.stays.1) (level-intervals n.chosen n.voices ∙ k.intervals) (level-behind n.voices)))

-- ---- a night

-- what a single call adds to the answer of a night
pub added-zero : (n : NightAnswer) (k : ℕ) (a : Answer) (v : ℕ) → v ≡ 0 → (counted_in (added_by v n k a) ≡ added (counted_in n) (counted_by a)) × ((added_by v n k a).again ≡ n.again) × ((added_by v n k a).taken ≡ n.taken + 1)
unfolding added_by added
added-zero n k a zero e = (refl, refl, refl)
added-zero n k a (suc v) e = absurd (omega arith)

pub added-again : (n : NightAnswer) (k : ℕ) (a : Answer) (v : ℕ) → v ≡ 1 → (counted_in (added_by v n k a) ≡ counted_in n) × ((added_by v n k a).again ≡ a) × ((added_by v n k a).taken ≡ n.taken)
unfolding added_by
added-again n k a zero e = absurd (omega arith)
added-again n k a (suc zero) e = (refl, refl, refl)
added-again n k a (suc (suc v)) e = absurd (omega arith)

pub added-refused : (n : NightAnswer) (k : ℕ) (a : Answer) (v : ℕ) → 1 < v → (counted_in (added_by v n k a) ≡ counted_in n) × ((added_by v n k a).again ≡ n.again) × ((added_by v n k a).taken ≡ n.taken)
unfolding added_by
added-refused n k a zero e = absurd (omega arith)
added-refused n k a (suc zero) e = absurd (omega arith)
added-refused n k a (suc (suc v)) e = (refl, refl, refl)

-- what is given again is the last block
pub again-last : {t : Tuner} {k : ℕ} {xs : List ℤ} {os : List (List ℤ)} {v : ℕ} → Verdict t k xs os v → v ≡ 1 → IsLast t k
again-last (given-again f l p) e = l
again-last (record_out_of_range n) e = absurd (omega arith)
again-last (block_empty g p) e = absurd (omega arith)
again-last (block_over_512 g p) e = absurd (omega arith)
again-last (output_short g a b p) e = absurd (omega arith)
again-last (number-neither f l n) e = absurd (omega arith)
again-last (other-samples f l n) e = absurd (omega arith)
again-last (take-full f l n c) e = absurd (omega arith)
again-last (taken f l n c) e = absurd (omega arith)

-- what is taken is not
pub taken-new : {t : Tuner} {k : ℕ} {xs : List ℤ} {os : List (List ℤ)} {v : ℕ} → Verdict t k xs os v → v ≡ 0 → IsLast t k → ⊥
taken-new (taken f l n c) e = l
taken-new (given-again f l p) e = absurd (omega arith)
taken-new (record_out_of_range n) e = absurd (omega arith)
taken-new (block_empty g p) e = absurd (omega arith)
taken-new (block_over_512 g p) e = absurd (omega arith)
taken-new (output_short g a b p) e = absurd (omega arith)
taken-new (number-neither f l n) e = absurd (omega arith)
taken-new (other-samples f l n) e = absurd (omega arith)
taken-new (take-full f l n c) e = absurd (omega arith)

-- what is answered 0 or 1 and is not the last block is taken
pub new-taken : {t u : Tuner} {k : ℕ} {xs : List ℤ} {os ps : List (List ℤ)} {store mid : List ℕ} {a : Answer} → Took t k xs os store u a ps mid → a.number ≤ 1 → (IsLast t k → ⊥) → a.number ≡ 0
new-taken {a = a} p m l = by (eqb a.number 0) (λ e. eqb-true a.number 0 e) (λ e. let some = eqb-false a.number 0 e in absurd (l (again-last p.verdict (took_number p ∙ (omega arith)))))

-- no block is followed by its own number
pub not_itself : (t : Tuner) (k : ℕ) → t.numbers.last.number ≡ k → IsLast t (number_after k) → ⊥
not_itself t k e l = let n = l.1 in omega arith

-- the stretches of a recording are the recording
pub stretches-all : (n size : ℕ) (xs : List ℤ) → 0 < size → length xs ≤ n → flatten (first_stretches n size xs) ≡ xs
unfolding first_stretches flatten
stretches-all zero size [] h l = refl
stretches-all zero size (x ∷ xs) h l = absurd (omega arith)
stretches-all (suc n) size [] h l = refl
stretches-all (suc n) zero (x ∷ xs) h l = absurd (omega arith)
stretches-all (suc n) (suc size) (x ∷ xs) h l =
    ap (λ (zs : List ℤ). take (suc size) (x ∷ xs) ++ zs) (stretches-all n (suc size) (drop size xs) h (omega (arith, length-drop size xs))) ∙ take-append-drop (suc size) (x ∷ xs)

-- and so a night does
module _ (P : Received → Tuner → List ℕ → Type 0) (carried : Carried P) where
  abbrev Both : Received → Tuner → List ℕ → Type 0
  Both r t s = Keeps r t × P r t s

  untaken_both : {r : Received} {t u : Tuner} {k : ℕ} {xs : List ℤ} {os ps : List (List ℤ)} {store mid : List ℕ} {a : Answer} → Both r t store → Took t k xs os store u a ps mid → 0 < a.number → Both r u mid
  untaken_both {r} h p m = let e = untaken_unchanged p m in transport (λ i. Both r (sym e.0 i) (sym e.1 i)) h

  -- blocks of which none is given again: what they count, what is received of their samples, and what of the outputs ps
  record Went (r : Received) (t' : Tuner) (s : List ℕ) (n n' : NightAnswer) (xss ps : List (List ℤ)) : Type 0 where
    counts : Figures
    keeps : Both (more_samples r counts.samples (take counts.samples (flatten xss)) counts ps) t' s
    figures : counted_in n' ≡ added (counted_in n) counts
    again : n'.again ≡ n.again

  went_none : {r : Received} {t' : Tuner} {s : List ℕ} (n n' : NightAnswer) (xss ps : List (List ℤ)) → Both r t' s → counted_in n' ≡ counted_in n → n'.again ≡ n.again → Went r t' s n n' xss ps
  went_none {r} {t'} {s} n n' xss ps k e f = record { counts = no_figures; keeps = subst (λ (q : Received). Both q t' s) (sym (more-none r ps)) k; figures = e ∙ sym (added_none (counted_in n)); again = f }

  -- a block that is taken, and those behind it
  went_on : {r : Received} {t u t' : Tuner} {k : ℕ} {n n' : NightAnswer} {xs : List ℤ} {xss os ps qs : List (List ℤ)} {store mid s : List ℕ} {a : Answer}
      → Keeps r t → Took t k xs os store u a ps mid → a.number ≡ 0 → length qs ≡ length ps → Went (more_samples r a.written xs (counted_by a) ps) t' s (added_by a.number n k a) n' xss qs → Went r t' s n n' (xs ∷ xss) (before (length xs) ps qs)
  unfolding flatten added
  went_on {t' = t'} {k} {n} {xss = xss} {qs = qs} {s = s} {a} h p z many w =
      let e = added-zero n k a a.number z in
      record {
        counts = added (counted_by a) w.counts;
        keeps = subst (λ (q : Received). Both q t' s) (more-on h p z w.counts (flatten xss) qs many) w.keeps;
        figures = w.figures ∙ ap (λ (f : Figures). added f w.counts) e.0 ∙ added-assoc (counted_in n) (counted_by a) w.counts;
        again = w.again ∙ e.1;
      }

  goes : {r : Received} {t t' : Tuner} {k : ℕ} {n n' : NightAnswer} {xss os ps : List (List ℤ)} {store s : List ℕ} → Both r t store → (IsLast t k → ⊥) → OneByOne t k n xss os store t' n' ps s → Went r t' s n n' xss ps
  unfolding after_block
  goes {n = n} {os = os} h l all_done = went_none n n [] os h refl refl
  goes {k = k} {n} h l (refused {xs = xs} {xss = xss} {ps = ps} {a = a} p m) = let e = added-refused n k a a.number m in went_none n (added_by a.number n k a) (xs ∷ xss) ps (untaken_both h p (omega arith)) e.0 e.1
  goes {r = r} h l (and_on {t = t} {u = u} {t' = t'} {k = k} {n = n} {n' = n''} {xs = xs} {xss = xss} {os = os} {ps = ps} {qs = qs} {store = store} {mid = mid} {store' = store'} {a = a} p m o) =
      let z : a.number ≡ 0 = new-taken p m l in
      went_on {n = n} h.0 p z (rest-many (length xs) ps o)
      (goes {r = more_samples r a.written xs (counted_by a) ps} (taken-keeps h.0 p z, carried.step h.0 h.1 p z) (not_itself u k (ap (λ (v : Tuner). v.numbers.last.number) (taken_is h.0 p z))) o)

  -- all blocks of a night, from nothing on
  abbrev Nights : Received → NightAnswer → List ℤ → List (List ℤ) → Tuner → List ℕ → Type 0
  Nights r a xs os t' s = Both (with_samples r a.again.written a.written xs (counted_in a) os) t' s

  -- what went, behind the samples ys of a first block that was given again
  behind : {r : Received} {t' : Tuner} {s : List ℕ} {n n' : NightAnswer} {xss ps : List (List ℤ)} (ys : List ℤ) (os : List (List ℤ)) → Went r t' s n n' xss ps → counted_in n ≡ no_figures → n.again.written ≡ length ys
      → ((m : ℕ) → onward (length ys) m r.wrote os ≡ onward 0 m r.wrote ps) → Nights r n' (ys ++ flatten xss) os t' s
  behind {r} {t'} {s} {n} {n'} {xss} {ps} ys os w none long same =
      let is : counted_in n' ≡ w.counts = w.figures ∙ ap (λ (f : Figures). added f w.counts) none ∙ none-added w.counts in
      let from : n'.again.written ≡ length ys = ap (λ (b : Answer). b.written) w.again ∙ long in
      let rest : drop n'.again.written (ys ++ flatten xss) ≡ flatten xss = ap (λ (m : ℕ). drop m (ys ++ flatten xss)) from ∙ drop-append_seam ys (flatten xss) in
      let wrote : onward n'.again.written n'.written r.wrote os ≡ onward 0 w.counts.samples r.wrote ps = (λ i. onward (from i) (is i).samples r.wrote os) ∙ same w.counts.samples in
      subst (λ (q : Received). Both q t' s) (sym (λ i. more r (map sample (take (is i).samples (rest i))) (is i) (wrote i))) w.keeps

  night-keeps : {r : Received} {t t' : Tuner} {k : ℕ} {n n' : NightAnswer} {xss os ps : List (List ℤ)} {store s : List ℕ} → Both r t store → counted_in n ≡ no_figures → n.again.written ≡ 0 → OneByOne t k n xss os store t' n' ps s → Nights r n' (flatten xss) ps t' s
  unfolding flatten after_block
  night-keeps {n = n} {os = os} h none long all_done = behind {n = n} [] os (went_none n n [] os h refl refl) none long (λ m. refl)
  night-keeps {k = k} {n} h none long (refused {xs = xs} {xss = xss} {ps = ps} {a = a} p m) =
      let e = added-refused n k a a.number m in behind {n = n} [] ps (went_none n (added_by a.number n k a) (xs ∷ xss) ps (untaken_both h p (omega arith)) e.0 e.1) none long (λ m. refl)
  night-keeps {r} {t} {t'} {k} {n} {n'} h none long (and_on {u = u} {xs = xs} {xss = xss} {ps = ps} {qs} {a = a} p m o) =
      by (eqb a.number 0)
      (λ e. behind {n = n} [] (before (length xs) ps qs) (goes h (taken-new p.verdict (took_number p ∙ eqb-true a.number 0 e)) (and_on p m o)) none long (λ m. refl))
      (λ e. let some = eqb-false a.number 0 e in
      let one : a.number ≡ 1 = omega arith in
      let last = again-last p.verdict (took_number p ∙ one) in
      let same : u.numbers.last.number ≡ k = ap (λ (v : Tuner). v.numbers.last.number) (untaken_unchanged p (omega arith)).0 ∙ sym last.1 in
      let q = added-again n k a a.number one in
      behind {n = added_by a.number n k a} xs (before (length xs) ps qs) (goes (untaken_both h p (omega arith)) (not_itself u k same) o) (q.0 ∙ none)
      (ap (λ (b : Answer). b.written) q.1 ∙ ap (λ (b : Answer). b.written) (took-keeps p m).0)
      (λ l. onward-behind (length xs) l r.wrote ps qs (wrote-room h.0 p m) (rest-many (length xs) ps o)))

  untouched-keeps : {r : Received} {v : ℕ} {t t' : Tuner} {os ps : List (List ℤ)} {store s : List ℕ} {a : NightAnswer} (xs : List ℤ) → Both r t store → Untouched v t os store t' a ps s → Nights r a xs ps t' s
  untouched-keeps {r} {v} {t} {t'} {ps = ps} {s = s} xs k u =
      subst (λ (b : NightAnswer). Nights r b xs ps t' s) (sym u.answer) (subst (λ (q : Received). Both q t' s) (sym (more-none r ps)) (transport (λ i. Both r (sym u.tuner i) (sym u.rows i)) k))

  pub nighted_keeps : {r : Received} {t t' : Tuner} {k size : ℕ} {xs : List ℤ} {os ps : List (List ℤ)} {store s : List ℕ} {a : NightAnswer} → Both r t store → Nighted t k size xs os store t' a ps s → Nights r a xs ps t' s
  nighted_keeps {xs = xs} k (Night.record_out_of_range n u) = untouched-keeps xs k u
  nighted_keeps {xs = xs} k (Night.size_out_of_range g z u) = untouched-keeps xs k u
  nighted_keeps {xs = xs} k (Night.output_short g z m r u) = untouched-keeps xs k u
  nighted_keeps {r} {t' = t'} {size = size} {xs = xs} {ps = ps} {s = s} {a = a} k (Night.one_by_one g z m room o) =
      subst (λ (ys : List ℤ). Nights r a ys ps t' s) (stretches-all (length xs) size xs z (omega arith)) (night-keeps k refl refl o)

-- ---- after any series of calls
call_keeps : {r : Received} {t t' : Tuner} {c : Call} → Keeps r t → Leaves t c t' → Keeps (plus c r) t'
unfolding plus
call_keeps k (by-start p) = start-keeps p
call_keeps k (by-change {s = s} p) = change-keeps k s p
call_keeps k (by-block p) = block-keeps k p
call_keeps k (by-night p) = (nighted_keeps (λ r t s. Unit) (record { step = λ k h p z. tt }) (k, tt) p).0
call_keeps k (by-midi {bytes = bytes} p) = midi-keeps k bytes p
call_keeps k (by-reset {store = store} p) = reset-keeps k store p
call_keeps k (by-meter p) = k

pub series-keeps : {cs : List Call} {t : Tuner} → Series cs t → Keeps (received cs) t
unfolding received
series-keeps fresh_start = default_keeps
series-keeps (and_then h p) = call_keeps (series-keeps h) p
