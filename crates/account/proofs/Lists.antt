-- The list of a take after any series of calls that lend the store each time as it was left. It is the one worked out afresh (`list-holds`).
-- Block for block and night for night the notes of the samples come behind those before them, and the list is a fold over them.
use Rattle.std.specs.Prelude.{◌≡◌, refl, ℕ, ◌+◌, ℤ, length, take}
use Rattle.std.proofs.Math.Path.{sym, ap, transport}
use Rattle.std.proofs.Common.{◌∙◌, subst, arith}
use mathlib.Core.List.{List, [], ◌∷◌, ◌++◌, append-nil, map, flatten}
use borrow.Author.Tests.{ne_eqb, eq-eqb, eqb-true, eqb-false}
use Rattle.std.proofs.Math.Dec.{eqb}
use Rattle.std.proofs.lemmas.List.{length-map}
use Rattle.std.proofs.Math.Seq.{take-length}
use Rattle.whole.specs.Tests.{cond_case, cond_yes, cond_no}
use Rattle.rules.specs.declared.Settings.{Settings}
use Rattle.rules.specs.Rules.{no_note, Given, stepped, fresh_take, no_tone, gives, defaults, cd_rate}
use Rattle.history.specs.History.{Event, sample, new-settings, byte, Course, fresh_course, happened, course_after, given_by}
use Rattle.history.proofs.Courses.{given_by-append, given_by-length, given-bytes, course_count}
use Rattle.lists.specs.declared.Listing.{Listing}
use Rattle.singers.specs.Singers.{kept_interval}
use Rattle.lists.specs.Lists.{Sheet, sung_note, notes_sung, last_note, sheet, empty_listing, after_notes, after_pieces, IsList}
use Rattle.lists.proofs.Folds.{after_notes-append}
use Rattle.lists.proofs.Afresh.{however_cut}
use Rattle.tuner.specs.declared.Tuner.{Tuner}
use Rattle.tuner.specs.declared.Answer.{Answer}
use Rattle.tuner.specs.Tuners.{take_of, force_of, fresh_numbers, silent_tuner, fresh_tuner, default_tuner, list_after, after_block, Took, kept_list, begun_again, with_keys, Done}
use Rattle.staying.specs.Staying.{took-taken, untaken_unchanged}
use Rattle.account.specs.Account.{Call, fresh_start, by-start, by-change, by-block, by-night, by-midi, by-reset, by-meter, Series, and_then, Received, begun, course_of, given_of, with_events, with_samples, counted_by, if_taken, plus, received, notes_of, Lent, at-start, at-reset, not_reset, to_block, to-night, past-change, past-midi, past-meter, ListTheorem}
use Rattle.account.specs.Cutting.{lead_after, ListCutting}
use Rattle.account.specs.Keeps.{Keeps, more_samples, Carried}
use Rattle.account.proofs.Keeps.{gives-is, taken-length, nighted_keeps, series-keeps}
use Rattle.account.specs.Lists.{Listed}

-- ---- the note of the last sample is that of the take's tone
last-given : (c : Course) (es : List Event) → last_note (sung_note c.take.pitch.tone) (notes_sung (given_by c es)) ≡ sung_note (course_after c es).take.pitch.tone
unfolding last_note given_by course_after happened stepped
last-given c [] = refl
last-given c (sample x ∷ es) = last-given (happened c (sample x)) es
last-given c (new-settings s ∷ es) = last-given (happened c (new-settings s)) es
last-given c (byte b ∷ es) = last-given (happened c (byte b)) es

module _ {r : Received} {t : Tuner} (k : Keeps r t) where
  tone-is : sung_note t.numbers.pitch.tone ≡ last_note no_note (notes_of r)
  unfolding lead_after fresh_take no_tone sung_note
  tone-is = ap (λ (u : Tuner). sung_note u.numbers.pitch.tone) k.is ∙ sym (last-given (fresh_course r.hertz r.settings) r.events)

  many : t.numbers.count ≡ 0 + length (notes_of r)
  unfolding lead_after fresh_take
  many =
      ap (λ (u : Tuner). u.numbers.count) k.is ∙ course_count (fresh_course r.hertz r.settings) r.events
      ∙ ap (λ (n : ℕ). 0 + n) (sym (length-map (given_of r) (λ (g : Given). sung_note g.tone) ∙ given_by-length (fresh_course r.hertz r.settings) r.events))

  notes-more : (es : List Event) → notes_sung (given_by (fresh_course r.hertz r.settings) (r.events ++ es)) ≡ notes_of r ++ notes_sung (given_by (course_of r) es)
  notes-more es = ap notes_sung (given_by-append (fresh_course r.hertz r.settings) r.events es) ∙ joined (given_of r)
    where
      joined : (gs : List Given) → notes_sung (gs ++ given_by (course_of r) es) ≡ notes_sung gs ++ notes_sung (given_by (course_of r) es)
      joined [] = refl
      joined (g ∷ gs) = ap (λ (ns : List ℕ). sung_note g.tone ∷ ns) (joined gs)

  block_listed : (began : List ℕ) {n : ℕ} {xs : List ℤ} {os ps : List (List ℤ)} {store mid : List ℕ} {u : Tuner} {a : Answer} → Listed began r t store → Took t n xs os store u a ps mid → a.number ≡ 0 → Listed began (more_samples r a.written xs (counted_by a) ps) u mid
  unfolding after_block list_after
  block_listed began {n} {xs} {store = store} h p z some =
      let m = t.numbers in
      let e = took-taken p z in
      let notes = notes_sung (gives (force_of t) (take_of t) xs) in
      let kept : eqb m.listed 0 ≡ _ = ne_eqb m.listed 0 (λ o. some (sym k.listed ∙ o)) in
      (λ i. sheet (e.0 i).numbers.list (e.1 i))
      ∙ cond_no (sheet m.list store) (after_notes (sung_note m.pitch.tone) m.count (sheet m.list store) notes) kept
      ∙ (λ i. after_notes (tone-is i) (many i) (h some i) (notes_sung (gives-is k p z i)))
      ∙ sym (ap (after_notes no_note 0 (sheet empty_listing began)) (notes-more (map sample xs)) ∙ after_notes-append no_note 0 (sheet empty_listing began) (notes_of r) (notes_sung (given_by (course_of r) (map sample xs))))

  -- no sample more
  events-listed : (began : List ℕ) {now : List ℕ} (es : List Event) (t' : Tuner) → given_by (course_of r) es ≡ [] → t'.numbers.list ≡ t.numbers.list → Listed began r t now → Listed began (with_events r es) t' now
  events-listed began {now} es t' none e h some =
      ap (λ (l : Listing). sheet l now) e
      ∙ h some
      ∙ sym (ap (after_notes no_note 0 (sheet empty_listing began)) (notes-more es ∙ ap (λ (gs : List Given). notes_of r ++ notes_sung gs) none ∙ append-nil (notes_of r)))

-- a call that was taken, or not
if_taken_lem : (began : List ℕ) {now : List ℕ} {own v : ℕ} {t u t' : Tuner} (r r' : Received) → Done own t u t' v → (t' ≡ u → Listed began r' t' now) → Listed began r t now → Listed began (if_taken v r' r) t' now
if_taken_lem began {now} {v = v} {t} {u} {t'} r r' p left h =
    cond_case (eqb v 0) r' r (λ (q : Received). Listed began q t' now) (λ e. left (p.tuner ∙ cond_yes u t e)) (λ e. subst (λ (w : Tuner). Listed began r w now) (sym (p.tuner ∙ cond_no u t e)) h)

-- where a list begins
begun-listed : (hertz : ℕ) (s : Settings) (listed : ℕ) (is store : List ℕ) (t : Tuner) → t.numbers.list ≡ empty_listing → Listed store (begun hertz s listed is) t store
unfolding given_by after_notes
begun-listed hertz s listed is store t e some = ap (λ (l : Listing). sheet l store) e

carried : (began : List ℕ) → Carried (Listed began)
carried began = record { step = λ k h p z. block_listed k began h p z }

-- ---- after any series of calls
listed_so : {cs : List Call} {t : Tuner} {began now : List ℕ} → Series cs t → Lent cs began now → Listed began (received cs) t now
unfolding received plus silent_tuner fresh_numbers begun_again with_keys given_by
listed_so (and_then {t' = t'} h (by-start {hertz} {s} {listed} {zs} {store} {v} p)) at-start =
    let fresh = fresh_tuner hertz s (kept_list listed) zs in
    let none : t'.numbers.list ≡ empty_listing = ap (λ (u : Tuner). u.numbers.list) p.tuner ∙ cond_case (eqb v 0) fresh default_tuner (λ (u : Tuner). u.numbers.list ≡ empty_listing) (λ e. refl) (λ e. refl) in
    cond_case (eqb v 0) (begun hertz s (kept_list listed) (map kept_interval zs)) (begun cd_rate defaults 0 []) (λ (q : Received). Listed store q t' store)
    (λ e. begun-listed hertz s (kept_list listed) (map kept_interval zs) store t' none) (λ e. begun-listed cd_rate defaults 0 [] store t' none)
listed_so {cs} (and_then {cs = ds} {t = t} {t' = t'} h (by-reset {store} {v} p)) (at-reset z) =
    let r = received ds in
    let e = eq-eqb v 0 z in
    let none : t'.numbers.list ≡ empty_listing = ap (λ (u : Tuner). u.numbers.list) (p.tuner ∙ cond_yes (silent_tuner (begun_again t.numbers)) t e) in
    subst (λ (q : Received). Listed store q t' store) (sym (cond_yes (begun r.hertz (course_of r).settings r.listed r.intervals) r e))
    (begun-listed r.hertz (course_of r).settings r.listed r.intervals store t' none)
listed_so {began = began} {now} (and_then {cs = ds} {t = t} {t' = t'} h (by-reset {store} {v} p)) (not_reset z l) =
    let r = received ds in
    let e = ne_eqb v 0 (λ o. omega arith) in
    transport (λ i. Listed began (sym (cond_no (begun r.hertz (course_of r).settings r.listed r.intervals) r e) i) (sym (p.tuner ∙ cond_no (silent_tuner (begun_again t.numbers)) t e) i) now) (listed_so h l)
listed_so {began = began} (and_then {cs = ds} {t = t} {t' = t'} h (by-block {xs = xs} {os' = os'} {store' = store'} {a = a} p)) (to_block l) =
    let r = received ds in
    let k = series-keeps h in
    cond_case (eqb a.number 0) (with_samples r 0 a.written xs (counted_by a) os') r (λ (q : Received). Listed began q t' store')
    (λ e. let z = eqb-true a.number 0 e in
    subst (λ (ys : List ℤ). Listed began (more_samples r a.written ys (counted_by a) os') t' store') (sym (ap (λ (m : ℕ). take m xs) (taken-length k p z) ∙ take-length xs)) (block_listed k began (listed_so h l) p z))
    (λ e. let some = eqb-false a.number 0 e in
    let same = untaken_unchanged p (omega arith) in
    transport (λ i. Listed began r (sym same.0 i) (sym same.1 i)) (listed_so h l))
listed_so {began = began} (and_then h (by-night p)) (to-night l) = (nighted_keeps (Listed began) (carried began) (series-keeps h, listed_so h l) p).1
listed_so {began = began} (and_then {cs = ds} {t' = t'} h (by-change {s = s} p)) (past-change l) =
    if_taken_lem began (received ds) (with_events (received ds) (new-settings s ∷ [])) p (λ e. events-listed (series-keeps h) began (new-settings s ∷ []) t' refl (ap (λ (u : Tuner). u.numbers.list) e) (listed_so h l)) (listed_so h l)
listed_so {began = began} (and_then {cs = ds} {t' = t'} h (by-midi {bytes = bytes} p)) (past-midi l) =
    if_taken_lem began (received ds) (with_events (received ds) (map byte bytes)) p
    (λ e. events-listed (series-keeps h) began (map byte bytes) t' (given-bytes (course_of (received ds)) bytes) (ap (λ (u : Tuner). u.numbers.list) e) (listed_so h l)) (listed_so h l)
listed_so (and_then h (by-meter p)) (past-meter l) = listed_so h l
listed_so fresh_start l = elim l [ ]

pub list-holds : ListTheorem
unfolding after_pieces flatten
list-holds cs t began now h l some =
    let notes = notes_of (received cs) in
    transport (λ i. IsList (append-nil notes i) began (sym (listed_so h l some) i)) (however_cut (notes ∷ []) began)

-- however the take was cut
pub list-cutting : ListCutting
list-cutting cs cs' t t' began now now' h h' same l l' some some' =
    let e : sheet t.numbers.list now ≡ sheet t'.numbers.list now' =
    listed_so h l some
    ∙ (λ i. after_notes no_note 0 (sheet empty_listing began) (notes_sung (given_by (fresh_course (same.hertz i) (same.settings i)) (same.events i))))
    ∙ sym (listed_so h' l' some') in
    (ap (λ (k : Sheet). k.listing) e, ap (λ (k : Sheet). k.store) e)
