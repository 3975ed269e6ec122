-- Each call takes the lead of a course to the lead of the course that follows: a block adds its samples, a change and keyboard bytes add theirs.
-- A block is taken by the samples that the tuner keeps, and the rules look at no older ones (`after_agree`), so it is taken as over the whole take.
use Rattle.std.specs.Prelude.{◌≡◌, List, [], ◌∷◌, map, ℕ, ℤ, ◌-ℤ◌}
use Rattle.std.proofs.Math.Path.{refl, sym, ap}
use Rattle.std.proofs.Common.{◌∙◌, arith}
use Rattle.std.proofs.Math.IntN.{nat_abs}
use Rattle.rules.specs.declared.Settings.{Settings}
use Rattle.rules.specs.Rules.{Sound, silence, Take, input_at, fresh_take, kept_samples, kept_eighths, eighth_lags, after, gives}
use Rattle.rules.specs.Facts.{Right, energies_of, correlations_of, keeping}
use Rattle.rules.proofs.Position.{in_bounds_behind}
use Rattle.rules.proofs.Blocks.{after-count, after-sound}
use Rattle.rules.proofs.Sane.{after_sane}
use Rattle.rules.specs.Local.{Agree}
use Rattle.rules.proofs.Local.{after_agree}
use Rattle.history.specs.History.{sample, new-settings, byte, Course, fresh_course, force_at, happened, course_after, given_by}
use Rattle.history.specs.Courses.{with_take, CourseIn}
use Rattle.history.proofs.Courses.{course_samples, given-samples, course_bytes, course_force}
use Rattle.pitch.specs.Pitches.{tracking_of, tracker_of, kept_of}
use Rattle.pitch.specs.Keeping.{right-energies, right-correlations, kept-pitch}
use Rattle.record.specs.Records.{sound_of, fresh_pitch, made, heard_after}
use Rattle.record.specs.Kept.{after-eighths, silent-right}
use Rattle.tuner.specs.declared.Voice.{Voice}
use Rattle.tuner.specs.declared.Tuner.{Tuner}
use Rattle.tuner.specs.Tuners.{take_of, force_of, layout_number, fresh_numbers, silent_tuner, after_block, with_numbers, with_keys, with_settings, with_bytes}
use Rattle.account.specs.Cutting.{newest, lead_after}
use Rattle.account.proofs.Newest.{newest-length, newest-sound, keeping-newest, newest-right, zeros_newest, kept-newest}

-- ---- a fresh tuner
module _ (hertz : ℕ) (s : Settings) (listed chosen : ℕ) (vs : List Voice) where
  pub fresh-after : silent_tuner (fresh_numbers hertz s listed chosen vs) ≡ lead_after (fresh_course hertz s) (silent_tuner (fresh_numbers hertz s listed chosen vs))
  unfolding lead_after silent_tuner fresh_numbers fresh_pitch fresh_take silence tracking_of tracker_of input_at
  fresh-after =
      let t = silent_tuner (fresh_numbers hertz s listed chosen vs) in
      let right : Right silence 2 eighth_lags t.energies t.correlations = silent-right 2 eighth_lags (λ k. refl) in
      λ j. record {
        numbers = fresh_numbers hertz s listed chosen vs;
        energies = right-energies right j;
        correlations = right-correlations right j;
        heard = zeros_newest kept_samples j;
        eighths = zeros_newest kept_eighths j;
        outs = t.outs;
      }

-- ---- a block
module _ {c : Course} (i : CourseIn c) (t : Tuner) where
  -- the take that the tuner holds is the course's, but for samples too old to be looked at
  pub lead_agree : Agree c.take (take_of (lead_after c t))
  unfolding lead_after take_of
  lead_agree =
      record {
        count = refl;
        pitch = kept-pitch c.take.pitch c.take.sound;
        position = (in_bounds_behind i.take.bounds).is;
        sound = λ k h. sym (newest-sound kept_samples c.take.sound k h);
        eighths = λ k h. sym (newest-sound kept_eighths c.take.eighths k h);
      }

  module _ (xs : List ℤ) where
    -- the rules' take after the block, and what they make of the take that is kept
    abbrev now : Take
    now = after (force_at c) c.take xs

    alike : Agree now (after (force_at c) (take_of (lead_after c t)) xs) × (gives (force_at c) c.take xs ≡ gives (force_at c) (take_of (lead_after c t)) xs)
    alike = after_agree (course_force i) i.take lead_agree xs

    pub block-gives : gives (force_of (lead_after c t)) (take_of (lead_after c t)) xs ≡ given_by c (map sample xs)
    unfolding lead_after
    block-gives = sym (given-samples c xs ∙ alike.1)

    abbrev made8 : List ℤ
    made8 = made c.take.count (sound_of (newest kept_samples c.take.sound)) xs

    heard-is : keeping (newest kept_samples c.take.sound) xs ≡ newest kept_samples now.sound
    unfolding take_of lead_after
    heard-is =
        keeping-newest (newest kept_samples c.take.sound) xs (newest-length kept_samples c.take.sound)
        (λ k h. alike.0.sound k h ∙ ap (λ (x : Sound). x k) (after-sound (force_at c) (take_of (lead_after c t)) xs))

    eighths_are : keeping (newest kept_eighths c.take.eighths) made8 ≡ newest kept_eighths now.eighths
    unfolding take_of lead_after
    eighths_are =
        keeping-newest (newest kept_eighths c.take.eighths) made8 (newest-length kept_eighths c.take.eighths)
        (λ k h. alike.0.eighths k h ∙ ap (λ (x : Sound). x k) (after-eighths (force_at c) (take_of (lead_after c t)) xs))

    block-is : (k : ℕ) (store : List ℕ) → after_block (lead_after c t) k xs store ≡ lead_after (with_take c now) (after_block (lead_after c t) k xs store)
    unfolding after_block heard_after lead_after
    block-is k store =
        let u = after_block (lead_after c t) k xs store in
        let n = u.numbers in
        let right = newest-right {n = kept_eighths} now.eighths 2 eighth_lags (omega arith) in
        let sums = ap sound_of eighths_are in
        let sane = after_sane (course_force i) i.take xs in
        let pitch = sym alike.0.pitch in
        let count = sym alike.0.count in
        let position = sym alike.0.position in
        λ j. record {
          numbers =
              record {
                layout = layout_number;
                settings = c.settings;
                hertz = c.hertz;
                keyboard = c.keyboard;
                count = sym (after-count (force_at c) c.take xs) j;
                pitch = ((λ k. kept_of (pitch k) (sound_of (heard-is k))) ∙ kept-newest now.pitch now.sound sane.pitch) j;
                behind = nat_abs (input_at (count j) -ℤ position j);
                last = n.last;
                listed = n.listed;
                chosen = n.chosen;
                list = n.list;
                voices = n.voices;
              };
          energies = (ap (λ (x : Sound). energies_of x 2 eighth_lags) sums ∙ right-energies right) j;
          correlations = (ap (λ (x : Sound). correlations_of x 2 eighth_lags) sums ∙ right-correlations right) j;
          heard = heard-is j;
          eighths = eighths_are j;
          outs = u.outs;
        }

    pub block-after : (k : ℕ) (store : List ℕ) → after_block (lead_after c t) k xs store ≡ lead_after (course_after c (map sample xs)) (after_block (lead_after c t) k xs store)
    block-after k store = block-is k store ∙ sym (ap (λ (d : Course). lead_after d (after_block (lead_after c t) k xs store)) (course_samples c xs))

-- ---- a change, and keyboard bytes
module _ (c : Course) (t : Tuner) where
  abbrev changed : Settings → Tuner
  changed s = with_numbers (lead_after c t) (with_settings (lead_after c t).numbers s)

  pub change-after : (s : Settings) → changed s ≡ lead_after (course_after c (new-settings s ∷ [])) (changed s)
  unfolding lead_after with_keys course_after happened
  change-after s = refl

  abbrev keyed : List ℕ → Tuner
  keyed bytes = with_numbers (lead_after c t) (with_bytes (lead_after c t).numbers bytes)

  pub bytes_after : (bytes : List ℕ) → keyed bytes ≡ lead_after (course_after c (map byte bytes)) (keyed bytes)
  unfolding lead_after with_keys
  bytes_after bytes = sym (ap (λ (d : Course). lead_after d (keyed bytes)) (course_bytes c bytes))
