-- A list played back as keys gives what the scale gave: sample after sample, the key held is the sample's note.
use Rattle.std.specs.Prelude.{◌≡◌, ℤ, length}
use Rattle.std.proofs.Math.Path.{refl, sym, ap}
use Rattle.std.proofs.Common.{◌∙◌, eq-eqb}
use mathlib.Core.List.{List, [], ◌∷◌, ◌++◌, map}
use Prim.Native.Nat.{ℕ, suc, ◌+◌, ◌≤◌, ◌<◌}
use native.Mathlib.Omega.{arith}
use Rattle.rules.specs.declared.Settings.{Settings}
use Rattle.rules.specs.declared.Tone.{Tone}
use Rattle.rules.specs.Rules.{no_note, Given, Take, Step, fresh_take, stepped, gives}
use Rattle.rules.specs.Facts.{InRange, SampleRate, ForceIn, ToneIn, pitched, unpitched}
use Rattle.rules.proofs.Ranges.{ranges}
use Rattle.rules.specs.Sane.{Sane}
use Rattle.rules.proofs.Sane.{fresh_sane, stepped_sane}
use Rattle.keyboard.specs.declared.Keyboard.{Keyboard}
use Rattle.keyboard.specs.Keys.{fresh, played}
use Rattle.history.specs.History.{Event, sample, byte, Course, fresh_course, force_at, happened, course_after, given_by}
use Rattle.history.proofs.Courses.{given_by-append, course_bytes, given-bytes, given-samples}
use Rattle.lists.specs.Lists.{Row, sung_note, notes_sung, note_at}
use Rattle.scores.specs.Scores.{listed_at, turn, scored, by_keys, list_for, BackAgain}
use Rattle.scores.proofs.Listed.{listed-is}
use Rattle.scores.proofs.Turns.{turn-key}
use Rattle.scores.proofs.Steps.{sung-is, stepped_same}

-- the note of a tone in its ranges is a note or none
unsung : (t : Tone) → t.period ≡ 0 → sung_note t ≡ 128
unfolding sung_note
unsung t e = rw (eq-eqb t.period 0 e)

sung-within : {t : Tone} → ToneIn t → sung_note t ≤ 128
sung-within {t} (pitched a b n c d e) = omega (arith, sung-is t (omega arith))
sung-within {t} (unpitched z r k) = omega (arith, unsung t z)

module _ (hertz : ℕ) (s : Settings) (rate : SampleRate hertz) (range : InRange s) (rows : List Row) where
  -- the two courses, with the same take
  abbrev scaled : Take → Course
  scaled t = record { hertz = hertz; settings = s; keyboard = fresh; take = t }

  abbrev keyed : Keyboard → Take → Course
  keyed k t = record { hertz = hertz; settings = by_keys s; keyboard = k; take = t }

  in_force_lem : ForceIn (force_at (scaled fresh_take))
  in_force_lem = record { settings = range; key = omega arith; hertz = rate }

  tone_in : (t : Take) (x : ℤ) → Sane (stepped (force_at (scaled t)) t x).next → ToneIn (stepped (force_at (scaled t)) t x).given.tone
  unfolding stepped
  tone_in t x h = h.pitch.tone

  nothing-given : (c : Course) → given_by c [] ≡ []
  unfolding given_by
  nothing-given c = refl

  -- bytes, and then a sample
  behind-bytes : (k : Keyboard) (t : Take) (bs : List ℕ) (es : List Event) → given_by (keyed k t) (map byte bs ++ es) ≡ given_by (keyed (played s.channel k bs) t) es
  behind-bytes k t bs es =
      given_by-append (keyed k t) (map byte bs) es
      ∙ ap (λ (gs : List Given). gs ++ given_by (course_after (keyed k t) (map byte bs)) es) (given-bytes (keyed k t) bs)
      ∙ ap (λ (c : Course). given_by c es) (course_bytes (keyed k t) bs)

  -- a sample at a take, whichever way its step is known
  one_more_lem : (k : Keyboard) (t : Take) (x : ℤ) (es : List Event) (w : Step) → stepped (force_at (keyed k t)) t x ≡ w → given_by (keyed k t) (sample x ∷ es) ≡ w.given ∷ given_by (keyed k w.next) es
  unfolding given_by happened
  one_more_lem k t x es w e = ap (λ (v : Step). v.given ∷ given_by (keyed k v.next) es) e

  same_from : (xs : List ℤ) (k : Keyboard) (t : Take) (last at : ℕ) → Sane t → last ≤ 128 → k.key ≡ last
      → ((j : ℕ) → j < length xs → listed_at rows (at + j) ≡ note_at (notes_sung (gives (force_at (scaled t)) t xs)) j)
      → given_by (keyed k t) (scored s.channel rows last at xs) ≡ gives (force_at (scaled t)) t xs
  unfolding scored gives
  same_from [] k t last at h l e same = nothing-given (keyed k t)
  same_from (x ∷ xs) k t last at h l e same =
      let f = force_at (scaled t) in
      let w = stepped f t x in
      let note = listed_at rows at in
      let z : at + 0 ≡ at = omega arith in
      let is : note ≡ sung_note w.given.tone = sym (ap (listed_at rows) z) ∙ same 0 (omega arith) in
      let next = stepped_sane in_force_lem h x in
      let within : note ≤ 128 = omega (arith, is, sung-within (tone_in t x next)) in
      let held = turn-key s.channel (ranges s range).channel.1 k last note l within e in
      let k' = played s.channel k (turn s.channel last note) in
      behind-bytes k t (turn s.channel last note) (sample x ∷ scored s.channel rows note (suc at) xs)
      ∙ one_more_lem k' t x (scored s.channel rows note (suc at) xs) w (stepped_same s hertz k'.key 128 t x h (held ∙ is))
      ∙ ap (λ (gs : List Given). w.given ∷ gs)
      (same_from xs k' w.next note (suc at) next within held (λ j m. let q : suc at + j ≡ at + suc j = omega arith in ap (listed_at rows) q ∙ same (suc j) (omega arith)))

pub back-again : BackAgain
back-again hertz s xs rate range =
    let start = fresh_course hertz s in
    let rows = list_for hertz s xs in
    let given = given-samples start xs in
    same_from hertz s rate range rows xs fresh fresh_take no_note 0 fresh_sane (omega arith) refl
    (λ j l. let z : 0 + j ≡ j = omega arith in ap (listed_at rows) z ∙ listed-is (notes_sung (given_by start (map sample xs))) j ∙ ap (λ (gs : List Given). note_at (notes_sung gs) j) given)
    ∙ sym given
