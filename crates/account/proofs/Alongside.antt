-- Laws of a voice over the history of a take: events, and more events after them; samples one after the other are a block's, settings and bytes leave it; its account; and takes that agree where a step and a voice look are beside a voice alike.
use Rattle.std.specs.Prelude.{◌≡◌, ℤ, length}
use Rattle.std.proofs.Math.Path.{refl, ap}
use Rattle.std.proofs.Common.{◌∙◌, subst, arith}
use mathlib.Core.List.{List, [], ◌∷◌, ◌++◌, map}
use Prim.Native.Nat.{ℕ, zero, suc}
use Rattle.rules.specs.declared.InForce.{InForce}
use Rattle.rules.specs.Rules.{Sound, Take, Step, growth, stepped, after}
use Rattle.rules.specs.Facts.{ForceIn, InBounds}
use Rattle.rules.specs.Sane.{Sane}
use Rattle.rules.proofs.Sane.{stepped_sane}
use Rattle.rules.proofs.Blocks.{after-count}
use Rattle.rules.specs.Local.{SameNewest, Agree}
use Rattle.rules.proofs.Local.{stepped_agree, reading-alike}
use Rattle.history.specs.History.{Event, sample, new-settings, byte, Course, force_at, happened, course_after, samples_in}
use Rattle.voices.specs.Voices.{voice_rate, Voiced, voiced, voiced_by, voice_after, voice_gives, voice_account, Since, since_after}
use Rattle.voices.proofs.Accompanying.{voice_account_lem, beside_in_bounds}
use Rattle.account.specs.Account.{voice_course, voiced_in}

-- ---- events, and more events after them
module _ (interval : ℕ) where
  pub voice_course-append : (c : Course) (at : ℤ) (es fs : List Event) → voice_course interval c at (es ++ fs) ≡ voice_course interval (course_after c es) (voice_course interval c at es) fs
  unfolding voice_course course_after
  voice_course-append c at [] fs = refl
  voice_course-append c at (sample x ∷ es) fs = voice_course-append (happened c (sample x)) _ es fs
  voice_course-append c at (new-settings s ∷ es) fs = voice_course-append (happened c (new-settings s)) at es fs
  voice_course-append c at (byte b ∷ es) fs = voice_course-append (happened c (byte b)) at es fs

  pub voiced_in-append : (c : Course) (at : ℤ) (es fs : List Event) → voiced_in interval c at (es ++ fs) ≡ voiced_in interval c at es ++ voiced_in interval (course_after c es) (voice_course interval c at es) fs
  unfolding voice_course voiced_in course_after
  voiced_in-append c at [] fs = refl
  voiced_in-append c at (sample x ∷ es) fs =
      let v = voiced_by c.hertz interval (stepped (force_at c) c.take x) at in ap (λ (vs : List Voiced). v ∷ vs) (voiced_in-append (happened c (sample x)) v.position es fs)
  voiced_in-append c at (new-settings s ∷ es) fs = voiced_in-append (happened c (new-settings s)) at es fs
  voiced_in-append c at (byte b ∷ es) fs = voiced_in-append (happened c (byte b)) at es fs

  -- ---- samples, and bytes
  pub samples_move : (c : Course) (at : ℤ) (xs : List ℤ) → voice_course interval c at (map sample xs) ≡ voice_after (force_at c) interval c.take at xs
  unfolding voice_course happened voice_after
  samples_move c at [] = refl
  samples_move c at (x ∷ xs) = samples_move (happened c (sample x)) _ xs

  pub samples_give : (c : Course) (at : ℤ) (xs : List ℤ) → voiced_in interval c at (map sample xs) ≡ voice_gives (force_at c) interval c.take at xs
  unfolding voiced_in happened voice_gives
  samples_give c at [] = refl
  samples_give c at (x ∷ xs) =
      let v = voiced_by c.hertz interval (stepped (force_at c) c.take x) at in ap (λ (vs : List Voiced). v ∷ vs) (samples_give (happened c (sample x)) v.position xs)

  pub bytes_leave : (c : Course) (at : ℤ) (bs : List ℕ) → (voice_course interval c at (map byte bs) ≡ at) × (voiced_in interval c at (map byte bs) ≡ [])
  unfolding voice_course voiced_in
  bytes_leave c at [] = (refl, refl)
  bytes_leave c at (b ∷ bs) = bytes_leave (happened c (byte b)) at bs

  -- ---- something is given for each sample
  pub voiced_in-length : (c : Course) (at : ℤ) (es : List Event) → length (voiced_in interval c at es) ≡ length (samples_in es)
  unfolding voiced_in samples_in
  voiced_in-length c at [] = refl
  voiced_in-length c at (sample x ∷ es) = ap suc (voiced_in-length (happened c (sample x)) _ es)
  voiced_in-length c at (new-settings s ∷ es) = voiced_in-length (happened c (new-settings s)) at es
  voiced_in-length c at (byte b ∷ es) = voiced_in-length (happened c (byte b)) at es

  -- ---- the account, over any history
  pub course_account : (c : Course) (at : ℤ) (es : List Event) (s : Since) → at ≡ voice_account s.level s.gave
      → let since = since_after s (voiced_in interval c at es) in voice_course interval c at es ≡ voice_account since.level since.gave
  unfolding voice_course voiced_in since_after voice_after voice_gives
  course_account c at [] s e = e
  course_account c at (sample x ∷ es) s e = course_account (happened c (sample x)) _ es _ (voice_account_lem (force_at c) interval c.take at (x ∷ []) s e)
  course_account c at (new-settings t ∷ es) s e = course_account (happened c (new-settings t)) at es s e
  course_account c at (byte b ∷ es) s e = course_account (happened c (byte b)) at es s e

-- ---- takes that agree

-- sounds that are the same where a voice reads are voiced alike
voiced-alike : {x x' : Sound} → SameNewest 1006 x x' → (n rate p : ℕ) (at : ℤ) → InBounds n (voiced n x rate p at).position → voiced n x rate p at ≡ voiced n x' rate p at
unfolding voiced
voiced-alike same n zero p at h = refl
voiced-alike same n (suc r) p at h =
    let g = growth n (suc r) p at in
    λ i. record { rate = suc r; position = g.position; out = reading-alike same n g.position h i; repeats = g.repeats; drops = g.drops }

-- one sample, beside steps that agree
beside-alike : (hertz interval : ℕ) (s s' : Step) (at : ℤ) → Agree s.next s'.next → s.given ≡ s'.given → InBounds s.next.count (voiced_by hertz interval s at).position → voiced_by hertz interval s at ≡ voiced_by hertz interval s' at
unfolding voiced_by
beside-alike hertz interval s s' at a e h =
    voiced-alike (λ k l. a.sound k (omega arith)) s.next.count (voice_rate hertz interval s.given.tone.period s.given.tone.note) s.given.tone.period at h
    ∙ (λ i. voiced (a.count i) s'.next.sound (voice_rate hertz interval (e i).tone.period (e i).tone.note) (e i).tone.period at)

next-count : (f : InForce) (t : Take) (x : ℤ) → suc t.count ≡ (stepped f t x).next.count
unfolding after
next-count f t x = omega (arith, after-count f t (x ∷ []))

-- any number of samples
pub voice_alike : {f : InForce} → ForceIn f → (interval : ℕ) {t u : Take} → Sane t → Agree t u → {at : ℤ} → InBounds t.count at → (xs : List ℤ)
    → (voice_after f interval t at xs ≡ voice_after f interval u at xs) × (voice_gives f interval t at xs ≡ voice_gives f interval u at xs)
unfolding voice_after voice_gives
voice_alike r interval h a b [] = (refl, refl)
voice_alike {f} r interval {t} {u} h a {at} b (x ∷ xs) =
    let next = stepped_sane r h x in
    let one = stepped_agree f a x h.pitch.lags next.bounds in
    let v = voiced_by f.hertz interval (stepped f t x) at in
    let here = subst (λ (n : ℕ). InBounds n v.position) (next-count f t x) (beside_in_bounds r interval x h b) in
    let same = beside-alike f.hertz interval (stepped f t x) (stepped f u x) at one.0 one.1 here in
    let rest = voice_alike r interval {t = (stepped f t x).next} {u = (stepped f u x).next} next one.0 here xs in (
      rest.0 ∙ ap (λ (w : Voiced). voice_after f interval (stepped f u x).next w.position xs) same,
      λ i. same i ∷ (rest.1 ∙ ap (λ (w : Voiced). voice_gives f interval (stepped f u x).next w.position xs) same) i,
    )
