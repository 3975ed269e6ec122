-- From what `voices::sing` promises to the rules: beside the tones that the lead told of a block, a voice gives what the rules say.
-- It reads in the store in which the block stands behind the kept samples, so that each sample's sound is the take's own.
use Rattle.std.specs.Prelude.{◌≡◌, ℤ, pos, nat_abs, ◌-ℤ◌, drop, get_or}
use Rattle.std.proofs.Math.Path.{refl, sym, ap}
use Rattle.std.proofs.Common.{◌∙◌, add-suc, take-suc, take-take, length-take-le}
use mathlib.Core.List.{List, [], ◌∷◌, ◌++◌, map}
use Prim.Native.Nat.{ℕ, zero, suc, ◌+◌, ◌≤◌, ◌<◌}
use native.Mathlib.Omega.{arith}
use Rattle.std.proofs.Math.ListN.{length, take}
use Rattle.std.proofs.Math.Seq.{take-append-add, take-length}
use Rattle.rules.specs.declared.InForce.{InForce}
use Rattle.rules.specs.declared.Tone.{Tone}
use Rattle.rules.specs.Rules.{Sound, silence, heard_all, Take, Given, input_at, stepped, after, gives}
use Rattle.rules.specs.Facts.{ForceIn, ToneIn, value_at}
use Rattle.rules.proofs.Hearing.{heard_all-append}
use Rattle.rules.proofs.Position.{behind-one}
use Rattle.rules.specs.Sane.{Sane}
use Rattle.rules.proofs.Sane.{stepped_sane, after_sane}
use Rattle.rules.proofs.Blocks.{after_more, after-count, after-sound}
use Rattle.ages.specs.Ages.{ago}
use Rattle.copying.specs.Copies.{Joined}
use Rattle.record.specs.Records.{sound_of}
use Rattle.steps.specs.Running.{Tones, tones_given}
use Rattle.voices.specs.Voices.{voice_rate, Voiced, voiced, voiced_by, voice_after, voice_gives, voice_outs}
use Rattle.voices.specs.Singing.{TrackedAll, sing_next, sing_after, sing_outs, Sang}
use Rattle.voices.proofs.Accompanying.{voice_cutting, tone-tracked}
use Rattle.tuner.specs.Beside.{ToldEach, tone_of}

outs-more : (vs : List Voiced) (v : Voiced) → voice_outs (vs ++ (v ∷ [])) ≡ voice_outs vs ++ (v.out ∷ [])
unfolding voice_outs
outs-more [] v = refl
outs-more (w ∷ vs) v = ap (λ (l : List ℤ). w.out ∷ l) (outs-more vs v)

-- ---- the tones told

-- the tone that a sample gives is in its ranges
given_in_lem : {f : InForce} → ForceIn f → {t : Take} → Sane t → (x : ℤ) → ToneIn (stepped f t x).given.tone
unfolding stepped
given_in_lem r h x = (stepped_sane r h x).pitch.tone

-- it stands at place i of what was given
given-at : (part : Tone → ℕ) (f : InForce) (t : Take) (xs : List ℤ) (rest : List ℕ) (i : ℕ) → i < length xs → get_or (map (λ (g : Given). part g.tone) (gives f t xs) ++ rest) i 0 ≡ part (tone_of f t xs i)
unfolding gives after
given-at part f t [] rest i h = absurd (omega arith)
given-at part f t (x ∷ xs) rest zero h = refl
given-at part f t (x ∷ xs) rest (suc i) h = given-at part f (stepped f t x).next xs rest i (omega arith)

pub told-each : (f : InForce) (t : Take) (xs : List ℤ) (before : Tones) {ts : Tones} → ts ≡ tones_given before (gives f t xs) → ToldEach f t xs ts
told-each f t xs before e =
    record {
      period = λ i h. ap (λ (o : Tones). get_or o.periods i 0) e ∙ given-at (λ (o : Tone). o.period) f t xs _ i h;
      note = λ i h. ap (λ (o : Tones). get_or o.notes i 0) e ∙ given-at (λ (o : Tone). o.note) f t xs _ i h;
      rate = λ i h. ap (λ (o : Tones). get_or o.rates i 0) e ∙ given-at (λ (o : Tone). o.rate) f t xs _ i h;
    }

-- each of them is in its ranges
pub told_in : {f : InForce} → ForceIn f → {t : Take} → Sane t → (xs : List ℤ) (i : ℕ) → ToneIn (tone_of f t xs i)
told_in r h xs i = given_in_lem r (after_sane r h (take i xs)) (value_at xs i)

pub told-tracked : {f : InForce} → ForceIn f → {t : Take} → Sane t → {xs : List ℤ} {ts : Tones} → ToldEach f t xs ts → TrackedAll (length xs) ts.periods ts.notes
told-tracked r h {xs} d = record { each = λ i l. let k = tone-tracked (told_in r h xs i) in rw (d.period i l, d.note i l) k }

-- ---- all samples of a block
module _ {f : InForce} (interval : ℕ) {t : Take} (at : ℤ) {kept xs s : List ℤ} (j : Joined kept xs 2276 s) (sound : t.sound ≡ sound_of kept) (long : length kept ≡ 1764) {ts : Tones} (told : ToldEach f t xs ts) where
  -- one more is taken
  next-take : (i : ℕ) → i < length xs → after f t (take (suc i) xs) ≡ (stepped f (after f t (take i xs)) (value_at xs i)).next
  next-take i h = ap (after f t) (take-suc xs i (pos 0) h) ∙ after_more f t (take i xs) (value_at xs i)

  heard_so_lem : (i : ℕ) → i ≤ length xs → ago s (1764 + i) ≡ (after f t (take i xs)).sound
  unfolding ago
  heard_so_lem i h =
      let stands : take (1764 + i) s ≡ kept ++ take i xs =
      sym (take-take (1764 + i) (length kept + length xs) s (omega arith))
      ∙ (λ k. take (sym long k + i) (j.starts k))
      ∙ take-append-add kept xs i in
      ap (heard_all silence) stands ∙ heard_all-append silence kept (take i xs) ∙ ap (λ (x : Sound). heard_all x (take i xs)) (sym sound) ∙ sym (after-sound f t (take i xs))

  count_so : (i : ℕ) → i ≤ length xs → (after f t (take i xs)).count ≡ t.count + i
  count_so i h = after-count f t (take i xs) ∙ ap (λ (n : ℕ). t.count + n) (length-take-le i xs h)

  next-is : (i : ℕ) → i < length xs → (z : ℤ)
      → sing_next f.hertz interval t.count at ts.periods ts.notes s 1764 i z ≡ voiced_by f.hertz interval (stepped f (after f t (take i xs)) (value_at xs i)) z
  unfolding voiced_by
  next-is i h z =
      let d = stepped f (after f t (take i xs)) (value_at xs i) in
      let next = next-take i h in
      let place : 1764 + i + 1 ≡ 1764 + suc i = omega arith in
      let counted : suc (t.count + i) ≡ d.next.count = sym (add-suc t.count i) ∙ sym (count_so (suc i) h) ∙ ap (λ (v : Take). v.count) next in
      let sounds : ago s (1764 + i + 1) ≡ d.next.sound = ap (ago s) place ∙ heard_so_lem (suc i) h ∙ ap (λ (v : Take). v.sound) next in
      λ k. voiced (counted k) (sounds k) (voice_rate f.hertz interval (told.period i h k) (told.note i h k)) (told.period i h k) z

  sung-after : (i : ℕ) → i ≤ length xs → sing_after f.hertz interval t.count at ts.periods ts.notes s 1764 i ≡ voice_after f interval t at (take i xs)
  unfolding sing_after voice_after
  sung-after zero h = refl
  sung-after (suc i) h =
      ap (λ (z : ℤ). (sing_next f.hertz interval t.count at ts.periods ts.notes s 1764 i z).position) (sung-after i (omega arith))
      ∙ ap (λ (v : Voiced). v.position) (next-is i h (voice_after f interval t at (take i xs)))
      ∙ sym (ap (voice_after f interval t at) (take-suc xs i (pos 0) h) ∙ (voice_cutting f interval t at (take i xs) (value_at xs i ∷ [])).0)

  sung-outs : (i : ℕ) → i ≤ length xs → sing_outs f.hertz interval t.count at ts.periods ts.notes s 1764 i ≡ voice_outs (voice_gives f interval t at (take i xs))
  unfolding sing_outs voice_gives voice_outs
  sung-outs zero h = refl
  sung-outs (suc i) h =
      let z = voice_after f interval t at (take i xs) in
      (λ k. sung-outs i (omega arith) k ++ (((ap (λ (z : ℤ). sing_next f.hertz interval t.count at ts.periods ts.notes s 1764 i z) (sung-after i (omega arith)) ∙ next-is i h z) k).out ∷ []))
      ∙ sym (outs-more (voice_gives f interval t at (take i xs)) _)
      ∙ sym (ap (λ (l : List ℤ). voice_outs (voice_gives f interval t at l)) (take-suc xs i (pos 0) h) ∙ ap voice_outs (voice_cutting f interval t at (take i xs) (value_at xs i ∷ [])).1)

  -- a voice that lay so far behind: how far behind it lies after them, and what it wrote
  pub sang_rules : {behind : ℕ} {outs outs' : List ℤ} {b : ℕ} → at ≡ input_at t.count -ℤ pos behind → Sang f.hertz interval behind ts.periods ts.notes s 1764 (length xs) outs outs' b
      → (b ≡ nat_abs (input_at (t.count + length xs) -ℤ voice_after f interval t at xs)) × (outs' ≡ voice_outs (voice_gives f interval t at xs) ++ drop (length xs) outs)
  sang_rules {behind} {outs} {b = b} e p =
      let n = length xs in
      let stands = sym (sung-after n (omega arith) ∙ ap (voice_after f interval t at) (take-length xs)) ∙ ap (λ (z : ℤ). sing_after f.hertz interval t.count z ts.periods ts.notes s 1764 n) e ∙ p.position t.count in
      let wrote = ap (λ (z : ℤ). sing_outs f.hertz interval t.count z ts.periods ts.notes s 1764 n) (sym e) ∙ sung-outs n (omega arith) ∙ ap (λ (l : List ℤ). voice_outs (voice_gives f interval t at l)) (take-length xs) in
      (behind-one {b = b} (record { is = stands; near = p.near }), p.out t.count ∙ ap (λ (l : List ℤ). l ++ drop n outs) wrote)
