-- Every call leaves a good tuner good and its arrays as long as they were; what the answer to a block says of the tuner; a block that is not taken changes nothing.
-- Of the lead each part follows from the rules' own laws, of the list from its fold, of a voice from its bounds beside the lead; the other calls change a few numbers.
use Rattle.std.specs.Prelude.{◌≡◌, true, ℕ, zero, suc, ◌+◌, ◌*◌, ◌≤◌, ◌<◌, eqb, leb, ℤ, pos, take, get_or, replicate}
use Rattle.std.proofs.Math.Path.{refl, ap, subst}
use Rattle.std.proofs.Common.{sym, ◌∙◌, get_or-drop}
use mathlib.Core.List.{List, [], ◌∷◌, ◌++◌, map, flatten}
use native.Mathlib.Omega.{arith}
use borrow.Author.Tests.{eqb-true, eqb-false, ne_eqb, eq-eqb, leb-true, le-leb, lt-leb}
use Rattle.std.proofs.Math.ListN.{length, drop, length-replicate, length-append, length-drop, get_or-replicate, get_or-append}
use Rattle.std.proofs.lemmas.List.{length-map}
use Rattle.whole.specs.Tests.{by, cond_case, cond_yes, cond_no, and_left, and_right}
use Rattle.whole.specs.Lists.{length-list_of}
use Rattle.rules.specs.declared.Settings.{Settings}
use Rattle.rules.specs.declared.InForce.{InForce}
use Rattle.rules.specs.Rules.{silence, no_tone, Take, Given, stepped, defaults, cd_rate, start_number, gives, samples_out}
use Rattle.rules.proofs.Ranges.{unrefused-start, default_start}
use Rattle.rules.specs.Facts.{InRange, SampleRate, ForceIn, unpitched, value_at, keeping}
use Rattle.rules.proofs.Position.{behind_in_bounds, in_bounds_behind}
use Rattle.rules.proofs.Blocks.{gives-length, given-length}
use Rattle.rules.specs.Sane.{Sane}
use Rattle.rules.proofs.Sane.{after_sane}
use Rattle.keyboard.specs.declared.Keyboard.{Keyboard}
use Rattle.keyboard.specs.Keys.{KeyboardIn}
use Rattle.keyboard.specs.Playing.{fresh_in, played_in, on_channel_in}
use Rattle.pitch.specs.Keeping.{listed-right, kept-right}
use Rattle.record.specs.Records.{sound_of, fresh_pitch, made, heard_after}
use Rattle.lists.specs.Lists.{sung_note, notes_sung, sheet, Sheet, after_notes, ListingIn}
use Rattle.lists.proofs.Folds.{empty_in, later_in, after_notes_in}
use Rattle.voices.specs.Voices.{voiced_by, voice_gives, voice_outs}
use Rattle.voices.proofs.Accompanying.{voice_bounds}
use Rattle.singers.specs.Singers.{kept_interval, all_in_range, intervals_number}
use Rattle.singers.specs.Voicing.{number-says}
use Rattle.record.specs.Kept.{keeping-length, made-length, still-silent, silent-right}
use Rattle.tuner.specs.declared.Voice.{Voice}
use Rattle.tuner.specs.declared.Numbers.{Numbers}
use Rattle.tuner.specs.declared.Tuner.{Tuner}
use Rattle.tuner.specs.declared.Answer.{Answer}
use Rattle.tuner.specs.Tuners.{take_of, force_of, voice_at, VoiceIn, VoicesIn, Good, level_voice, chosen_voices, fresh_numbers, silent_tuner, fresh_tuner, default_tuner, kept_out, stands_at, voice_beside, voice_out, voices_beside, list_after, after_block, kept_outs, written, answer_by, counted, plain, Took, kept_list, begin_number, store_fits, Started, NineThen, record_out_of_range, record-good, Done, with_numbers, with_keys, begun_again, Changed, Keyed, Reset}
use Rattle.tuner.proofs.Starts.{number_own, number_17, number-on}
use Rattle.tuner.proofs.Verdicts.{verdict-fits, verdict-zero}

-- how long a tuner's arrays are
pub record Lengths (t : Tuner) : Type 0 where
  pub heard : length t.heard ≡ 1764
  pub eighths : length t.eighths ≡ 224
  pub energies : length t.energies ≡ 109
  pub correlations : length t.correlations ≡ 109
  pub outs : length t.outs ≡ 2048
  pub voices : length t.numbers.voices ≡ 3

-- good, and its arrays so long
abbrev pub Stays : Tuner → Type 0
Stays t = Good t × Lengths t

-- ---- a fresh tuner is good
module _ (hertz : ℕ) (s : Settings) (listed chosen : ℕ) (vs : List Voice) where
  good-silent : SampleRate hertz → InRange s → listed ≤ 1 → VoicesIn chosen vs → Good (silent_tuner (fresh_numbers hertz s listed chosen vs))
  unfolding silent_tuner fresh_numbers fresh_pitch no_tone silence
  good-silent rate e l v =
      record {
        layout = refl;
        lead =
            record {
              settings = e;
              hertz = rate;
              keyboard = fresh_in;
              heard =
                  record {
                    count = omega arith;
                    before = λ i h. get_or-replicate 1764 i (pos 0) (pos 0) (omega arith);
                    eighths_before = λ i h. get_or-replicate 224 i (pos 0) (pos 0) (omega arith);
                    sums = silent-right 2 109 (still-silent 224 silence (λ k. refl));
                  };
              pitch = record { flag = omega arith; pitch = record { tone = unpitched refl refl (omega arith); lags = tt; while_searching = λ z. refl }; sums = λ z. absurd (omega arith) };
              head = record { behind = omega arith };
              last = record { length = omega arith; within = omega arith };
            };
        listed = l;
        list = empty_in;
        voices = v;
      }

  silent_lengths : length vs ≡ 3 → Lengths (silent_tuner (fresh_numbers hertz s listed chosen vs))
  unfolding silent_tuner fresh_numbers
  silent_lengths n =
      record {
        heard = length-replicate 1764 (pos 0);
        eighths = length-replicate 224 (pos 0);
        energies = length-replicate {A = ℕ} 109 0;
        correlations = length-replicate 109 (pos 0);
        outs = length-replicate 2048 (pos 0);
        voices = n;
      }

-- ---- the voices that a start chooses

each_in : (zs : List ℤ) → all_in_range zs ≡ true → (i : ℕ) → i < length zs → kept_interval (get_or zs i (pos 0)) ≤ 24
unfolding all_in_range
each_in [] e i h = absurd (omega arith)
each_in (z ∷ zs) e zero h = leb-true _ 24 (and_left (leb (kept_interval z) 24) (all_in_range zs) e)
each_in (z ∷ zs) e (suc i) h = each_in zs (and_right (leb (kept_interval z) 24) (all_in_range zs) e) i (omega arith)

level_in : {interval : ℕ} → interval ≤ 24 → VoiceIn (level_voice interval)
level_in h = record { interval = h; behind = omega arith }

chosen_in : (zs : List ℤ) → all_in_range zs ≡ true → length zs ≤ 3 → VoicesIn (length zs) (chosen_voices zs)
unfolding chosen_voices
chosen_in zs e few = record { few = few; each = at }
  where
    at : (j : ℕ) → j < length zs → VoiceIn (voice_at (chosen_voices zs) j)
    at zero h = level_in (each_in zs e 0 h)
    at (suc zero) h = level_in (each_in zs e 1 h)
    at (suc (suc zero)) h = level_in (each_in zs e 2 h)
    at (suc (suc (suc j))) h = absurd (omega arith)

pub fresh-stays : (hertz : ℕ) (s : Settings) (listed : ℕ) (zs : List ℤ) → SampleRate hertz → InRange s → listed ≤ 1 → all_in_range zs ≡ true → length zs ≤ 3 → Stays (fresh_tuner hertz s listed zs)
fresh-stays hertz s listed zs rate e l r few = (good-silent hertz s listed (length zs) (chosen_voices zs) rate e l (chosen_in zs r few), silent_lengths hertz s listed (length zs) (chosen_voices zs) (unfold chosen_voices in refl))

pub default_stays : Stays default_tuner
default_stays = let r = unrefused-start defaults default_start in fresh-stays cd_rate defaults 0 [] r.0 r.1 (omega arith) (unfold all_in_range in refl) (omega arith)

-- ---- a good tuner holds a take in its ranges
module _ {t : Tuner} (g : Good t) where
  pub good-force : ForceIn (force_of t)
  good-force = record { settings = g.lead.settings; key = g.lead.keyboard.key; hertz = g.lead.hertz }

  pub good_sane : Sane (take_of t)
  unfolding take_of
  good_sane = record { pitch = g.lead.pitch.pitch; bounds = behind_in_bounds (record { is = refl; near = g.lead.head.behind }) }

-- ---- a block leaves a good tuner

-- what was silent before the take has moved on by what came
keeping_silent : (kept new : List ℤ) (i : ℕ) → i + length new < length kept → value_at kept (length new + i) ≡ pos 0 → value_at (keeping kept new) i ≡ pos 0
keeping_silent kept new i h e =
    get_or-drop (length new) (kept ++ new) i (pos 0) ∙ get_or-append kept new (pos 0) (length new + i) (omega arith) ∙ e

-- the voices that go on, and those beyond
pub beside_at : (f : Voice → Voice) (n : ℕ) (vs : List Voice) (j : ℕ) → j < n → j < length vs → voice_at (map f (take n vs) ++ drop n vs) j ≡ f (voice_at vs j)
beside_at f zero vs j h l = absurd (omega arith)
beside_at f (suc n) [] j h l = absurd (omega arith)
beside_at f (suc n) (v ∷ vs) zero h l = refl
beside_at f (suc n) (v ∷ vs) (suc j) h l = beside_at f n vs j (omega arith) (omega arith)

beside-length : (f : Voice → Voice) (n : ℕ) (vs : List Voice) → length (map f (take n vs) ++ drop n vs) ≡ length vs
beside-length f zero vs = refl
beside-length f (suc n) [] = refl
beside-length f (suc n) (v ∷ vs) = ap suc (beside-length f n vs)

-- what is kept of each output is 512 places long
pub kept-length : (n : ℕ) (zs : List ℤ) → length zs ≡ n → n ≤ 512 → length (kept_out n zs) ≡ 512
kept-length n zs e h = length-append zs (drop n (replicate 512 (pos 0))) ∙ omega (arith, e, length-drop n (replicate 512 (pos 0)), length-replicate 512 (pos 0))

pub voice_length : (f : InForce) (interval : ℕ) (t : Take) (at : ℤ) (xs : List ℤ) → length (voice_outs (voice_gives f interval t at xs)) ≡ length xs
unfolding voice_gives voice_outs
voice_length f interval t at [] = refl
voice_length f interval t at (x ∷ xs) = let s = stepped f t x in ap suc (voice_length f interval s.next (voiced_by f.hertz interval s at).position xs)

pub lead_out_length : (t : Tuner) (xs : List ℤ) → length xs ≤ 512 → length (kept_out (length xs) (samples_out (gives (force_of t) (take_of t) xs))) ≡ 512
lead_out_length t xs most = kept-length (length xs) (samples_out (gives (force_of t) (take_of t) xs)) (gives-length (force_of t) (take_of t) xs) most

pub voice_out_length : (t : Tuner) (xs : List ℤ) → length xs ≤ 512 → (v : Voice) → length (voice_out t xs v) ≡ 512
voice_out_length t xs most v =
    kept-length (length xs) (voice_outs (voice_gives (force_of t) v.interval (take_of t) (stands_at t v) xs)) (voice_length (force_of t) v.interval (take_of t) (stands_at t v) xs) most

all-length : (out : Voice → List ℤ) → ((v : Voice) → length (out v) ≡ 512) → (n : ℕ) (vs : List Voice) → n ≤ length vs → length (flatten (map out (take n vs))) ≡ 512 * n
unfolding flatten
all-length out e zero vs h = refl
all-length out e (suc n) [] h = absurd (omega arith)
all-length out e (suc n) (v ∷ vs) h = length-append (out v) (flatten (map out (take n vs))) ∙ omega (arith, e v, all-length out e n vs (omega arith))

module _ {t : Tuner} (g : Good t) (l : Lengths t) (k : ℕ) (xs : List ℤ) (store : List ℕ) (most : length xs ≤ 512) where
  voice_after_lem : {v : Voice} → VoiceIn v → VoiceIn (voice_beside t xs v)
  unfolding take_of
  voice_after_lem {v} i =
      record {
        interval = i.interval;
        behind = (in_bounds_behind (voice_bounds (force_of t) v.interval (take_of t) (stands_at t v) xs (good-force g) (good_sane g) (behind_in_bounds (record { is = refl; near = i.behind })))).near;
      }

  voices-after : VoicesIn t.numbers.chosen (voices_beside t xs)
  voices-after =
      let n = t.numbers in
      record {
        few = g.voices.few;
        each = λ j h. subst VoiceIn (sym (beside_at (voice_beside t xs) n.chosen n.voices j h (omega (arith, l.voices, g.voices.few)))) (voice_after_lem (g.voices.each j h));
      }

  notes-many : length (notes_sung (gives (force_of t) (take_of t) xs)) ≡ length xs
  notes-many = length-map (gives (force_of t) (take_of t) xs) (λ (g : Given). sung_note g.tone) ∙ given-length (force_of t) (take_of t) xs

  list-after : ListingIn (t.numbers.count + length xs) (list_after t xs store).listing
  unfolding list_after
  list-after =
      let n = t.numbers in
      let notes = notes_sung (gives (force_of t) (take_of t) xs) in
      cond_case (eqb n.listed 0) (sheet n.list store) (after_notes (sung_note n.pitch.tone) n.count (sheet n.list store) notes)
      (λ (k : Sheet). ListingIn (n.count + length xs) k.listing)
      (λ e. later_in (omega arith) g.list)
      (λ e. subst (λ (m : ℕ). ListingIn (n.count + m) (after_notes (sung_note n.pitch.tone) n.count (sheet n.list store) notes).listing) notes-many
      (after_notes_in (sung_note n.pitch.tone) n.count (sheet n.list store) notes g.list))

  pub good-after : t.numbers.count + length xs ≤ 1000000000 → Good (after_block t k xs store)
  unfolding after_block heard_after
  good-after upto =
      let n = t.numbers in
      let new8 = made n.count (sound_of t.heard) xs in
      let made8 = made-length n.count (sound_of t.heard) xs in
      let sane = after_sane (good-force g) (good_sane g) xs in
      record {
        layout = g.layout;
        lead =
            record {
              settings = g.lead.settings;
              hertz = g.lead.hertz;
              keyboard = g.lead.keyboard;
              heard =
                  record {
                    count = upto;
                    before = λ i e. keeping_silent t.heard xs i (omega (arith, l.heard)) (g.lead.heard.before (length xs + i) (omega arith));
                    eighths_before = λ i e. keeping_silent t.eighths new8 i (omega (arith, l.eighths)) (g.lead.heard.eighths_before (length new8 + i) (omega arith));
                    sums = listed-right (sound_of (keeping t.eighths new8)) 2 109;
                  };
              pitch = kept-right _ _ sane.pitch;
              head = record { behind = (in_bounds_behind sane.bounds).near };
              last = record { length = most; within = omega arith };
            };
        listed = g.listed;
        list = list-after;
        voices = voices-after;
      }

  pub after_lengths : Lengths (after_block t k xs store)
  unfolding after_block heard_after
  after_lengths =
      let n = t.numbers in
      let out = kept_out (length xs) (samples_out (gives (force_of t) (take_of t) xs)) in
      let sung = flatten (map (voice_out t xs) (take n.chosen n.voices)) in
      let rest = drop (512 * (1 + n.chosen)) t.outs in
      record {
        heard = keeping-length t.heard xs ∙ l.heard;
        eighths = keeping-length t.eighths (made n.count (sound_of t.heard) xs) ∙ l.eighths;
        energies = length-list_of _ 109;
        correlations = length-list_of _ 109;
        outs =
            length-append (out ++ sung) rest
            ∙ omega (
              arith,
              length-append out sung,
              lead_out_length t xs most,
              all-length (voice_out t xs) (voice_out_length t xs most) n.chosen n.voices (omega (arith, l.voices, g.voices.few)),
              length-drop (512 * (1 + n.chosen)) t.outs,
              l.outs,
              g.voices.few,
            );
        voices = beside-length (voice_beside t xs) n.chosen n.voices ∙ l.voices;
      }

-- ---- every call keeps a good tuner good
module _ {t : Tuner} (g : Good t) (l : Lengths t) where
  pub took-stays : {k : ℕ} {xs : List ℤ} {os os' : List (List ℤ)} {store store' : List ℕ} {t' : Tuner} {a : Answer} → Took t k xs os store t' a os' store' → Stays t'
  took-stays {k} {xs} {os} {store = store} p =
      rw p.tuner
      (cond_case (eqb p.number 0) (after_block t k xs store) t Stays
      (λ e. let z = eqb-true p.number 0 e in
      let f = verdict-fits p.verdict (omega arith) in
      (good-after g l k xs store f.most (verdict-zero p.verdict z), after_lengths g l k xs store f.most))
      (λ e. (g, l)))

  -- a good tuner is answered with the call's own number
  pub own_number : {own v : ℕ} → NineThen own t v → v ≡ own
  own_number (record_out_of_range n) = absurd (n g)
  own_number (record-good h) = refl

  done-stays : {own v : ℕ} {taken t' : Tuner} → (own ≡ 0 → Stays taken) → Done own t taken t' v → Stays t'
  done-stays {v = v} {taken = taken} f p =
      rw p.tuner (cond_case (eqb v 0) taken t Stays (λ e. f (sym (own_number p.number) ∙ eqb-true v 0 e)) (λ e. (g, l)))

  -- other settings and another keyboard
  stays_with : (s : Settings) (k : Keyboard) → InRange s → KeyboardIn k → Stays (with_numbers t (with_keys t.numbers s k))
  unfolding with_keys
  stays_with s k r i = (
    record {
      layout = g.layout;
      lead = record { settings = r; hertz = g.lead.hertz; keyboard = i; heard = g.lead.heard; pitch = g.lead.pitch; head = g.lead.head; last = g.lead.last };
      listed = g.listed;
      list = g.list;
      voices = g.voices;
    },
    record { heard = l.heard; eighths = l.eighths; energies = l.energies; correlations = l.correlations; outs = l.outs; voices = l.voices },
  )

  pub changed-stays : (s : Settings) {t' : Tuner} {v : ℕ} → Changed t s t' v → Stays t'
  changed-stays s = done-stays (λ e. stays_with s _ e (on_channel_in _ _ _ g.lead.keyboard))

  pub keyed_stays : (bytes : List ℕ) {t' : Tuner} {v : ℕ} → Keyed t bytes t' v → Stays t'
  keyed_stays bytes = done-stays (λ e. stays_with t.numbers.settings _ g.lead.settings (played_in _ _ bytes g.lead.keyboard))

  -- the voices put level are in their ranges
  level-at : (vs : List Voice) (j : ℕ) → j < length vs → voice_at (map (λ (v : Voice). level_voice v.interval) vs) j ≡ level_voice (voice_at vs j).interval
  level-at [] j h = absurd (omega arith)
  level-at (v ∷ vs) zero h = refl
  level-at (v ∷ vs) (suc j) h = level-at vs j (omega arith)

  pub begun-stays : Stays (silent_tuner (begun_again t.numbers))
  unfolding begun_again
  begun-stays =
      let n = t.numbers in
      let level = map (λ (v : Voice). level_voice v.interval) n.voices in (
        good-silent n.hertz n.settings n.listed n.chosen level g.lead.hertz g.lead.settings g.listed
            (record { few = g.voices.few; each = λ j h. subst VoiceIn (sym (level-at n.voices j (omega (arith, l.voices, g.voices.few)))) (level_in (g.voices.each j h).interval) }),
        silent_lengths n.hertz n.settings n.listed n.chosen level (length-map n.voices (λ (v : Voice). level_voice v.interval) ∙ l.voices),
      )

  pub reset-stays : (store : List ℕ) {t' : Tuner} {v : ℕ} → Reset t store t' v → Stays t'
  reset-stays store = done-stays (λ e. begun-stays)

-- what a start takes is in its ranges
pub begin_says : (hertz : ℕ) (s : Settings) (listed : ℕ) (zs : List ℤ) (n : ℕ) → begin_number hertz s listed zs n ≡ 0 → (start_number hertz s ≡ 0) × (intervals_number zs ≡ 0)
begin_says hertz s listed zs n e =
    by (eqb (start_number hertz s) 0)
    (λ a. let z = eqb-true (start_number hertz s) 0 a in
    by (store_fits listed n) (λ f. (z, sym (number-on hertz s listed zs n z f) ∙ e)) (λ f. absurd (let q = number_17 hertz s listed zs n z f in omega arith)))
    (λ a. let h = eqb-false (start_number hertz s) 0 a in absurd (h (sym (number_own hertz s listed zs n h) ∙ e)))

listed_in : (listed : ℕ) → kept_list listed ≤ 1
listed_in listed = cond_case (eqb listed 0) 0 1 (λ (m : ℕ). m ≤ 1) (λ e. omega arith) (λ e. omega arith)

pub started_stays : {hertz : ℕ} {s : Settings} {listed : ℕ} {zs : List ℤ} {store : List ℕ} {t' : Tuner} {v : ℕ} → Started hertz s listed zs store t' v → Stays t'
started_stays {hertz} {s} {listed} {zs} {store} {v = v} p =
    rw p.tuner
    (cond_case (eqb v 0) (fresh_tuner hertz s (kept_list listed) zs) default_tuner Stays
    (λ e. let q = begin_says hertz s listed zs (length store) (sym p.number ∙ eqb-true v 0 e) in
    let r = unrefused-start s q.0 in
    let w = number-says zs q.1 in
    fresh-stays hertz s (kept_list listed) zs r.0 r.1 (listed_in listed) w.0 w.1)
    (λ e. default_stays))

-- ---- the answer's number is the verdict's
module _ {t t' : Tuner} {k : ℕ} {xs : List ℤ} {os os' : List (List ℤ)} {store store' : List ℕ} {a : Answer} (p : Took t k xs os store t' a os' store') where
  number_by : (v long : ℕ) (n : Numbers) → (answer_by v long n).number ≡ v
  unfolding answer_by
  number_by v long n = cond_case (leb v 1) (counted v long n) (plain v n) (λ (b : Answer). b.number ≡ v) (λ e. refl) (λ e. refl)

  pub took_number : p.number ≡ a.number
  took_number = sym (ap (λ (b : Answer). b.number) p.answer ∙ number_by p.number (length xs) t'.numbers)

  -- 0 and 1 answer and write what the tuner then keeps
  pub took-keeps : a.number ≤ 1 → (a ≡ counted a.number (length xs) t'.numbers) × (os' ≡ written (length xs) (kept_outs t') os)
  unfolding answer_by
  took-keeps h =
      let yes = le-leb p.number 1 (omega (arith, took_number)) in (
        p.answer ∙ cond_yes (counted p.number (length xs) t'.numbers) (plain p.number t'.numbers) yes ∙ ap (λ (v : ℕ). counted v (length xs) t'.numbers) took_number,
        p.outs ∙ cond_yes (written (length xs) (kept_outs t') os) os yes,
      )

  -- what is taken
  pub took-taken : a.number ≡ 0 → (t' ≡ after_block t k xs store) × (store' ≡ (list_after t xs store).store)
  took-taken h =
      let yes = eq-eqb p.number 0 (took_number ∙ h) in (p.tuner ∙ cond_yes (after_block t k xs store) t yes, p.rows ∙ cond_yes (list_after t xs store).store store yes)

  -- a block that is not taken, given again or refused, leaves tuner and store as they were
  pub untaken_unchanged : 0 < a.number → (t' ≡ t) × (store' ≡ store)
  untaken_unchanged h =
      let no = ne_eqb p.number 0 (λ z. omega (arith, took_number)) in (p.tuner ∙ cond_no (after_block t k xs store) t no, p.rows ∙ cond_no (list_after t xs store).store store no)

  -- one that is refused leaves the outputs too
  pub refused-unchanged : 1 < a.number → os' ≡ os
  refused-unchanged h = p.outs ∙ cond_no (written (length xs) (kept_outs t') os) os (lt-leb p.number 1 (omega (arith, took_number)))
