-- One sample's step looks at the newest 1,764 samples and the newest 224 eighth-rate samples, and no further: takes that agree there step alike.
-- Tracking looks at lags up to 880, so at twice as many samples; finding at eighth-rate lags up to 110; the reading at ages up to 1,005.
use Rattle.std.specs.Prelude.{◌≡◌, Bool, true, false, cond, ◌&&◌, List, [], ◌∷◌, leb, ℤ, pos, ◌+ℤ◌, ◌-ℤ◌}
use Rattle.std.proofs.Math.Path.{refl, ap}
use Rattle.std.proofs.Common.{sym, ◌∙◌, subst, arith}
use Rattle.std.proofs.Math.Option.{Option, none, some}
use Prim.Native.Nat.{ℕ, zero, suc, ◌+◌, ◌-◌, ◌*◌, ◌/◌, ◌≤◌, ◌<◌}
use borrow.Author.Tests.{ltb-true}
use Rattle.std.proofs.Math.Dec.{ltb}
use Rattle.std.proofs.Math.IntN.{nat_abs}
use Rattle.whole.specs.Tests.{by, and_right}
use Rattle.whole.specs.Sums.{addsℤ, fold-below}
use Rattle.whole.specs.Numbers.{floor_div}
use Rattle.rules.specs.Facts.{ForceIn, ModeIn, InBounds}
use Rattle.rules.specs.declared.Settings.{Settings}
use Rattle.rules.specs.declared.InForce.{InForce}
use Rattle.rules.specs.declared.Tone.{Tone}
use Rattle.rules.specs.Rules.{Sound, heard, D, eighth_sample, eighth_due, passes, is_low, least_from, low_above, choice, found_by, found, best, is_lost, period, tracked, Mode, searching, tracking, Pitch, listened_in, listened, input_at, reading, through, growth, Take, eighths_after, stepped, after, gives}
use Rattle.rules.proofs.Energies.{E-same}
use Rattle.rules.proofs.Distance.{D-same}
use Rattle.rules.proofs.Choosing.{low-above, best-first, place_of_same}
use Rattle.rules.specs.Position.{whole_behind, fraction_behind}
use Rattle.rules.proofs.Position.{in_bounds_behind, whole-within, reading-behind}
use Rattle.rules.specs.Sane.{Sane}
use Rattle.rules.proofs.Sane.{stepped_sane}
use Rattle.rules.specs.Local.{Agree, SameNewest, StepAlike, reach, reach_eighths}

-- ---- what looks at the newest n samples
module _ {n : ℕ} {x y : Sound} (same : SameNewest n x y) where
  D-alike : (L : ℕ) → 2 * L ≤ n → D x L ≡ D y L
  D-alike L h = D-same x y L (λ k l. same k (omega arith))

  passes-alike : (s : Settings) (L : ℕ) → 2 * L ≤ n → passes s x L ≡ passes s y L
  unfolding passes
  passes-alike s L h = rw (D-alike L h, E-same x y L (λ k l. same k (omega arith)))

  low_alike : (s : Settings) (L : ℕ) → 2 * (L + 1) ≤ n → is_low s x L ≡ is_low s y L
  unfolding is_low
  low_alike s L h = rw (D-alike L (omega arith), D-alike (L - 1) (omega arith), D-alike (L + 1) h, passes-alike s L (omega arith))

  eighth-alike : 8 ≤ n → eighth_sample x ≡ eighth_sample y
  unfolding eighth_sample
  eighth-alike h = ap (λ (z : ℤ). floor_div z 8) (fold-below addsℤ x y 8 (λ k l. same k (omega arith)))

  heard-alike : (new : ℤ) → SameNewest n (heard new x) (heard new y)
  unfolding heard
  heard-alike new zero h = refl
  heard-alike new (suc k) h = same k (omega arith)

-- ---- searching
least-alike : {f g : ℕ → Bool} (from n : ℕ) → ((m : ℕ) → from ≤ m → m < from + n → f m ≡ g m) → least_from f from n ≡ least_from g from n
unfolding least_from
least-alike from zero e = refl
least-alike from (suc n) e = λ i. cond (e from (omega arith) (omega arith) i) (some from) (least-alike (suc from) n (λ m h l. e m (omega arith) (omega arith)) i)

module _ (s : Settings) {x x' y y' : Sound} (same : SameNewest reach x x') (sameEighths : SameNewest reach_eighths y y') where
  low_above_alike : (above : ℕ) → low_above s y above ≡ low_above s y' above
  unfolding low_above
  low_above_alike above = least-alike (suc above) (109 - above) (λ m h l. low_alike sameEighths s m (omega arith))

  -- a low is at most 109
  full_rate_alike : (above L : ℕ) → low_above s y above ≡ some L → D x (8 * L) ≡ D x' (8 * L)
  full_rate_alike above L e = let r = low-above s y above L e in D-alike same (8 * L) (omega (arith, r.over, r.under))

  choice-alike : (L1 : ℕ) (second : Option ℕ) → low_above s y 2 ≡ some L1 → low_above s y L1 ≡ second → choice x L1 second ≡ choice x' L1 second
  unfolding choice
  choice-alike L1 none a b = refl
  choice-alike L1 (some L2) a b = rw (full_rate_alike 2 L1 a, full_rate_alike L1 L2 b)

  found_by_alike : (first : Option ℕ) → low_above s y 2 ≡ first → found_by s x y first ≡ found_by s x' y' first
  unfolding found_by
  found_by_alike none a = refl
  found_by_alike (some L1) a =
      ap (cond (leb 55 L1) (some (8 * L1))) (choice-alike L1 (low_above s y L1) a refl ∙ ap (choice x' L1) (low_above_alike L1))

  found_alike : found s x y ≡ found s x' y'
  unfolding found
  found_alike = found_by_alike (low_above s y 2) refl ∙ ap (found_by s x' y') (low_above_alike 2)

-- ---- tracking
cond_alike : {A : Type 0} (c : Bool) {a b : A} (d : A) → (c ≡ true → a ≡ b) → cond c a d ≡ cond c b d
cond_alike true d f = f refl
cond_alike false d f = refl

module _ {x x' : Sound} (same : SameNewest reach x x') (low : ℕ) (within : low ≤ 873) where
  best-alike : best x low ≡ best x' low
  unfolding best
  best-alike = place_of_same (λ j h. D-alike same (low + j) (omega arith))

  lost_alike : (s : Settings) (at last : ℕ) → at < 8 → is_lost s x (low + at) last ≡ is_lost s x' (low + at) last
  unfolding is_lost
  lost_alike s at last h = rw (passes-alike same s (low + at) (omega arith))

  period-alike : (at : ℕ) → at < 8 → period x low at ≡ period x' low at
  unfolding period
  period-alike at h =
      ap (λ (z : ℤ). nat_abs (pos (256 * (low + at)) +ℤ z))
      (cond_alike (ltb 0 at && ltb at 7) (pos 0)
      (λ t. let b = ltb-true at 7 (and_right (ltb 0 at) (ltb at 7) t) in
      rw (D-alike same (low + at - 1) (omega arith), D-alike same (low + at) (omega arith), D-alike same (low + at + 1) (omega arith))))

  tracked-alike : (f : InForce) (t : Tone) (last : ℕ) → tracked f x t low last ≡ tracked f x' t low last
  unfolding tracked
  tracked-alike f t last =
      let inside = (best-first x' low).inside in
      rw (best-alike, lost_alike f.settings (best x' low) last inside, period-alike (best x' low) inside)

-- ---- reading: it looks at ages up to 1,005
pub reading-alike : {x x' : Sound} → SameNewest 1006 x x' → (n : ℕ) (at : ℤ) → InBounds n at → reading x n at ≡ reading x' n at
reading-alike {x} {x'} same n at h =
    let b = nat_abs (input_at n -ℤ at) in
    let behind = in_bounds_behind h in
    let near = whole-within b behind.near in
    reading-behind x n b behind.is
    ∙ (λ i.
    through (same (whole_behind b + 5) (omega arith) i) (same (whole_behind b + 4) (omega arith) i) (same (whole_behind b + 3) (omega arith) i) (same (whole_behind b + 2) (omega arith) i) (fraction_behind b / 16))
    ∙ sym (reading-behind x' n b behind.is)

-- ---- one sample
module _ {x x' y y' : Sound} (same : SameNewest reach x x') (sameEighths : SameNewest reach_eighths y y') (n : ℕ) where
  eighths-alike : SameNewest reach_eighths (eighths_after n x y) (eighths_after n x' y')
  unfolding eighths_after
  eighths-alike =
      by (eighth_due n)
      (λ t. rw (t, eighth-alike same (omega arith)) (heard-alike sameEighths (eighth_sample x')))
      (λ t. rw t sameEighths)

  listened_in_alike : (f : InForce) (m : Mode) (p : Pitch) → ModeIn m → listened_in m f n x y p ≡ listened_in m f n x' y' p
  unfolding listened_in
  listened_in_alike f searching p h = rw (found_alike f.settings same sameEighths)
  listened_in_alike f (tracking low last) p h = rw (tracked-alike same low (omega (arith, h.upto)) f p.tone last)

  listened-alike : (f : InForce) (p : Pitch) → ModeIn p.mode → listened f n x y p ≡ listened f n x' y' p
  unfolding listened
  listened-alike f p h = listened_in_alike f p.mode p h

module _ (f : InForce) {t u : Take} (a : Agree t u) (new : ℤ)
    (lags : ModeIn t.pitch.mode) (bounds : InBounds (stepped f t new).next.count (stepped f t new).next.position) where
  -- count, pitch and position taken from t
  sounds_step_alike : StepAlike f new t (record { count = t.count; sound = u.sound; eighths = u.eighths; pitch = t.pitch; position = t.position })
  unfolding stepped
  sounds_step_alike =
      let n = suc t.count in
      let x = heard-alike a.sound new in
      let y = eighths-alike x a.eighths n in
      let p = listened-alike x y n f t.pitch lags in
      let out = reading-alike (λ k h. x k (omega arith)) n _ bounds in (
        record { count = refl; pitch = p; position = λ i. (growth n (p i).tone.rate (p i).tone.period t.position).position; sound = x; eighths = y },
        (λ i. record {
          out = (out ∙ (λ j. reading (heard new u.sound) n (growth n (p j).tone.rate (p j).tone.period t.position).position)) i;
          tone = (p i).tone;
          repeats = (growth n (p i).tone.rate (p i).tone.period t.position).repeats;
          drops = (growth n (p i).tone.rate (p i).tone.period t.position).drops;
        }),
      )

  pub stepped_agree : StepAlike f new t u
  stepped_agree =
      subst (StepAlike f new t)
      (λ i. record { count = a.count i; sound = u.sound; eighths = u.eighths; pitch = a.pitch i; position = a.position i })
      sounds_step_alike

-- ---- any number of samples
pub after_agree : {f : InForce} → ForceIn f → {t u : Take} → Sane t → Agree t u → (xs : List ℤ) → Agree (after f t xs) (after f u xs) × (gives f t xs ≡ gives f u xs)
unfolding after gives
after_agree r h a [] = (a, refl)
after_agree {f = f} r {t = t} {u = u} h a (x ∷ xs) =
    let next = stepped_sane r h x in
    let one = stepped_agree f a x h.pitch.lags next.bounds in
    let rest = after_agree r {t = (stepped f t x).next} next one.0 xs in
    (rest.0, λ i. one.1 i ∷ rest.1 i)
