-- The wanted note is the one that document 01 asks for; raw rates are nearest and lie from a half to two, and so the rate does.
-- Notes an octave apart share their bit of the scale, so a note more than an octave off loses to its octave: no case of a mask,
-- and none of a sample rate but in the tests computed over the tables.
use Rattle.std.specs.Prelude.{◌≡◌, refl, true, false, ◌&&◌, ◌||◌, ℕ, zero, suc, ◌+◌, ◌-◌, ◌*◌, ◌/◌, ◌%◌, ◌^◌, ◌≤◌, ◌<◌, ltb, eqb}
use Rattle.std.proofs.Common.{ap, ◌∙◌, subst, le_refl, le_antisymm, le-div_iff_mul-le, div-lt_iff_lt-mul, mul_comm, add-zero, add-suc, add-sub_of_le, arith}
use Rattle.std.proofs.Math.Option.{Option, none, some}
use Rattle.std.proofs.Math.Nat.{pow-succ', pow-le-pow_right}
use borrow.Author.Tests.{ltb-true, ltb-false, leb-true, leb-false, eq-eqb, ne_eqb, le-ltb, lt-ltb, le-leb, lt-leb}
use Rattle.std.proofs.Math.Dec.{leb}
use Rattle.whole.specs.Tests.{by, cond_case, and_right, and_no, yes_and_no}
use Rattle.rules.specs.Table.{Span}
use Rattle.rules.proofs.Table.{table-span, at_each_note}
use Rattle.rules.specs.Ranges.{Within}
use Rattle.rules.proofs.Ranges.{is_within, within-is, not_within, ranges}
use Rattle.rules.specs.Rules.{cd_table, film_table, table, first_note, notes, note_period, of_scale, away, nearer, wanted_of, wanted, raw_rate, least_period, greatest_period, least_rate, greatest_rate, no_note, fresh_rate, scale_mode, note_of, wanted_note, wanted_period, within, raw_toward, goal_of, goal, tuned}
use Rattle.rules.specs.declared.InForce.{InForce}
use Rattle.rules.specs.declared.Tone.{Tone}
use Rattle.rules.specs.Facts.{SampleRate, ForceIn, OfTable, ToneIn, pitched}
use Rattle.rules.specs.Tuning.{IsWantedOf, IsWanted, WantedRule, WantedOne, RawRateRule, RawRateRange, TowardRange}
use Rattle.rules.proofs.Position.{tone-rate, tone-kept}
use Rattle.rules.proofs.Smoothing.{kept_range, rate_range}
use Rattle.rules.specs.Notes.{Answers, GoalIn, end}

module _ (hertz p m n : ℕ) where
  higher_if_as_near : away p (note_period hertz n) ≤ away p (note_period hertz m) → nearer hertz p (some m) n ≡ n
  unfolding nearer
  higher_if_as_near h = rw le-leb

  lower_if_nearer : away p (note_period hertz m) < away p (note_period hertz n) → nearer hertz p (some m) n ≡ m
  unfolding nearer
  lower_if_nearer h = rw lt-leb

module _ (hertz scale p k : ℕ) where
  abbrev next : ℕ
  next = first_note hertz + k

  one_note_more : (P : ℕ → Type 0) → ((m : ℕ) → first_note hertz ≤ m → m < next → P m) → P next →
      (m : ℕ) → first_note hertz ≤ m → m < first_note hertz + suc k → P m
  one_note_more P before here m lo hi =
      by (ltb m next)
      (λ e. before m lo (omega (arith, ltb-true)))
      (λ e. let at : next ≡ m = omega (arith, ltb-false) in subst P at here)

  the_lower_stays : (n : ℕ) → IsWantedOf hertz scale p k n →
      (of_scale scale next ≡ true → away p (note_period hertz n) < away p (note_period hertz next)) → IsWantedOf hertz scale p (suc k) n
  the_lower_stays n w far =
      record {
        in_table = omega (arith, w.in_table);
        in_scale = w.in_scale;
        least = one_note_more _ w.least (λ on. omega (arith, far on));
        higher = one_note_more _ w.higher (λ on e. absurd (omega (arith, far on)));
      }

  the_next_wins : of_scale scale next ≡ true →
      ((m : ℕ) → first_note hertz ≤ m → m < next → of_scale scale m ≡ true → away p (note_period hertz next) ≤ away p (note_period hertz m)) →
      IsWantedOf hertz scale p (suc k) next
  the_next_wins on near =
      record {
        in_table = omega arith;
        in_scale = on;
        least = one_note_more _ near (λ on. le_refl _);
        higher = λ m lo hi s e. omega arith;
      }

  next_of_the_scale : (lower : Option ℕ) → Answers hertz scale p k lower → of_scale scale next ≡ true →
      IsWantedOf hertz scale p (suc k) (nearer hertz p lower next)
  unfolding nearer
  next_of_the_scale none a on = the_next_wins on (λ m lo hi s. absurd (a m lo hi s))
  next_of_the_scale (some n) a on =
      by (leb (away p (note_period hertz next)) (away p (note_period hertz n)))
      (λ e. rw (higher_if_as_near hertz p n next (leb-true _ _ e)) (the_next_wins on (λ m lo hi s. omega (arith, a.least m lo hi s, leb-true))))
      (λ e. rw (lower_if_nearer hertz p n next (leb-false _ _ e)) (the_lower_stays n a (λ s. leb-false _ _ e)))

  next_not_of_the_scale : (lower : Option ℕ) → Answers hertz scale p k lower → of_scale scale next ≡ false → Answers hertz scale p (suc k) lower
  next_not_of_the_scale none a off = one_note_more _ a (λ on. yes_and_no on off)
  next_not_of_the_scale (some n) a off = the_lower_stays n a (λ on. absurd (yes_and_no on off))

wanted_of_answers : (hertz scale p k : ℕ) → Answers hertz scale p k (wanted_of hertz scale p k)
unfolding wanted_of
wanted_of_answers hertz scale p zero = λ m lo hi on. absurd (omega arith)
wanted_of_answers hertz scale p (suc k) =
    let lower = wanted_of hertz scale p k in
    let a = wanted_of_answers hertz scale p k in
    cond_case (of_scale scale (first_note hertz + k)) (some (nearer hertz p lower (first_note hertz + k))) lower (Answers hertz scale p (suc k))
    (next_of_the_scale hertz scale p k lower a)
    (next_not_of_the_scale hertz scale p k lower a)

pub wanted-is : (hertz scale p n : ℕ) → wanted hertz scale p ≡ some n → IsWanted hertz scale p n
unfolding wanted
wanted-is hertz scale p n e = subst (Answers hertz scale p (notes hertz)) e (wanted_of_answers hertz scale p (notes hertz))

-- ---- a mask from 1 to 4095 has a note
below_the_bit : (s m : ℕ) → 0 < m → s < 2 * m → s / m % 2 ≡ 0 → s < m
below_the_bit s m some-m l off =
    let q : s / m < 2 = (div-lt_iff_lt-mul some-m).1 l in
    let r : s / m < 1 = omega arith in
    omega (arith, (div-lt_iff_lt-mul some-m).0 r)

no_bit_no_mask : (j s : ℕ) → s < 2 ^ j → ((i : ℕ) → i < j → s / 2 ^ i % 2 ≡ 0) → s ≡ 0
no_bit_no_mask zero s l off = omega arith
no_bit_no_mask (suc j) s l off =
    let some-bit = pow-le-pow_right {n = 2} (omega arith) {i = 0} {j = j} (omega arith) in
    no_bit_no_mask j s (below_the_bit s (2 ^ j) some-bit (rw pow-succ' at l) (off j (omega arith))) (λ i h. off i (omega arith))

module _ {hertz : ℕ} (rate : SampleRate hertz) where
  -- notes 36 to 47 have the bits 0 to 11
  no_note_no_mask : (scale p : ℕ) → scale ≤ 4095 → Answers hertz scale p (notes hertz) none → scale ≡ 0
  unfolding of_scale
  no_note_no_mask scale p hi a = no_bit_no_mask 12 scale (omega arith) off
    where
      span : Span hertz
      span = table-span rate

      off : (i : ℕ) → i < 12 → scale / 2 ^ i % 2 ≡ 0
      off i h =
          let e : (36 + i) % 12 ≡ i = omega arith in
          let f : scale / 2 ^ i % 2 ≡ 1 → ⊥ =
          λ on. a (36 + i) (omega (arith, span.first)) (omega (arith, span.end)) (eq-eqb _ 1 (ap (λ (c : ℕ). scale / 2 ^ c % 2) e ∙ on)) in
          omega arith

pub wanted-some : WantedRule
unfolding wanted
wanted-some hertz scale p rate lo hi = go (wanted hertz scale p) refl (wanted_of_answers hertz scale p (notes hertz))
  where
    go : (o : Option ℕ) → wanted hertz scale p ≡ o → Answers hertz scale p (notes hertz) o → (n : ℕ) × ((wanted hertz scale p ≡ some n) × IsWanted hertz scale p n)
    go none e a = absurd (omega (arith, no_note_no_mask rate scale p hi a))
    go (some n) e a = (n, (e, a))

pub wanted-one : WantedOne
wanted-one hertz scale p n m v w =
    let a = v.least m w.in_table.0 w.in_table.1 w.in_scale in
    let b = w.least n v.in_table.0 v.in_table.1 v.in_scale in
    le_antisymm
    (w.higher n v.in_table.0 v.in_table.1 v.in_scale (le_antisymm a b))
    (v.higher m w.in_table.0 w.in_table.1 w.in_scale (le_antisymm b a))

pub is-wanted : {hertz scale p n : ℕ} → SampleRate hertz → 1 ≤ scale → scale ≤ 4095 → IsWanted hertz scale p n → wanted hertz scale p ≡ some n
is-wanted {hertz} {scale} {p} {n} rate lo hi w =
    let (m, f) = wanted-some hertz scale p rate lo hi in f.0 ∙ ap some (wanted-one hertz scale p m n f.1 w)

module _ {hertz : ℕ} (rate : SampleRate hertz) where
  pub note_period_range : {n : ℕ} → OfTable hertz n → (least_period ≤ note_period hertz n) × (note_period hertz n ≤ greatest_period)
  note_period_range t = (
    leb-true _ _ (at_each_note (λ hertz n p. leb least_period p) (unfold table first_note cd_table film_table in (refl, refl)) rate t),
    leb-true _ _ (at_each_note (λ hertz n p. leb p greatest_period) (unfold table first_note cd_table film_table in (refl, refl)) rate t),
  )

  first_octave_is_long : {n : ℕ} → OfTable hertz n → n < first_note hertz + 12 → 112640 ≤ note_period hertz n
  first_octave_is_long {n} t h =
      leb-true _ _
      (rw (lt-leb (first_note hertz + 12) n h) at
      (at_each_note (λ hertz n p. leb (first_note hertz + 12) n || leb 112640 p) (unfold table first_note cd_table film_table in (refl, refl)) rate t))

  last_octave_is_short : {n : ℕ} → OfTable hertz n → end hertz ≤ n + 12 → note_period hertz n ≤ 8192
  last_octave_is_short {n} t h =
      leb-true _ _
      (rw (le-ltb (n + 12) (end hertz) h) at
      (at_each_note (λ hertz n p. ltb (n + 12) (end hertz) || leb p 8192) (unfold table first_note notes cd_table film_table in (refl, refl)) rate t))

  an_octave_is_half : {n m : ℕ} → n + 12 ≡ m → OfTable hertz n → m < end hertz →
      (note_period hertz m < note_period hertz n) × (note_period hertz n ≤ 2 * note_period hertz m + 1)
  an_octave_is_half {n} {m} e t h =
      let inside : n + 12 < end hertz = omega arith in
      rw (← e) (
        ltb-true _ _ (at_each_note (λ hertz n p. ltb (note_period hertz (n + 12)) p) (unfold table first_note cd_table film_table note_period in (refl, refl)) rate t),
        leb-true _ _
            (rw (lt-leb (end hertz) (n + 12) inside) at
            (at_each_note (λ hertz n p. leb (end hertz) (n + 12) || leb p (2 * note_period hertz (n + 12) + 1)) (unfold table first_note notes cd_table film_table note_period in (refl, refl)) rate t)),
      )

  next_is_shorter : {n : ℕ} → OfTable hertz n → note_period hertz (suc n) < note_period hertz n
  next_is_shorter t = ltb-true _ _ (at_each_note (λ hertz n p. ltb (note_period hertz (suc n)) p) (unfold table first_note cd_table film_table note_period in (refl, refl)) rate t)

  falls-by : (m d : ℕ) → first_note hertz ≤ m → m + d < end hertz → note_period hertz (m + d) + d ≤ note_period hertz m
  falls-by m zero lo hi = rw (add-zero m) (omega arith)
  falls-by m (suc d) lo hi =
      rw (add-suc m d) (omega (arith, falls-by m d lo (omega arith), next_is_shorter {n = m + d} (record { from = omega arith; upto = omega arith })))

  -- the table falls: a higher note is shorter by one for each note between, at least
  pub table-falls : (m n : ℕ) → first_note hertz ≤ m → m ≤ n → n < end hertz → note_period hertz n + (n - m) ≤ note_period hertz m
  table-falls m n lo h hi =
      subst (λ (k : ℕ). note_period hertz k + (n - m) ≤ note_period hertz m) (add-sub_of_le h) (falls-by m (n - m) lo (omega arith))

-- ---- The raw rate

octaves_share_their_bit : (scale n m : ℕ) → n % 12 ≡ m % 12 → of_scale scale n ≡ true → of_scale scale m ≡ true
unfolding of_scale
octaves_share_their_bit scale n m e on = rw e at on

pub wanted_of_table : {hertz scale p n : ℕ} → IsWanted hertz scale p n → OfTable hertz n
wanted_of_table w = record { from = w.in_table.0; upto = w.in_table.1 }

module _ {hertz scale p n : ℕ} (rate : SampleRate hertz) (w : IsWanted hertz scale p n) (lo : least_period ≤ p) (hi : p ≤ greatest_period) where
  no_farther_than_its_octave : (m : ℕ) → n % 12 ≡ m % 12 → OfTable hertz m → away p (note_period hertz n) ≤ away p (note_period hertz m)
  no_farther_than_its_octave m e t = w.least m t.from t.upto (octaves_share_their_bit scale n m e w.in_scale)

  here : OfTable hertz n
  here = wanted_of_table w

  wanted_at_most_double : note_period hertz n ≤ 2 * p
  wanted_at_most_double =
      by (ltb (n + 12) (end hertz))
      (λ e. let h = ltb-true (n + 12) (end hertz) e in
      let half = an_octave_is_half rate refl here h in
      omega (arith, no_farther_than_its_octave (n + 12) (omega arith) (record { from = omega (arith, here.from); upto = h })))
      (λ e. omega (arith, last_octave_is_short rate here (ltb-false (n + 12) (end hertz) e)))

  wanted_at_least_half : p ≤ 2 * note_period hertz n
  wanted_at_least_half =
      by (ltb n (first_note hertz + 12))
      (λ e. omega (arith, first_octave_is_long rate here (ltb-true n (first_note hertz + 12) e)))
      (λ e. let h = ltb-false n (first_note hertz + 12) e in
      let below : OfTable hertz (n - 12) = record { from = omega arith; upto = omega (arith, here.upto) } in
      let half = an_octave_is_half rate (omega arith) below here.upto in
      omega (arith, no_farther_than_its_octave (n - 12) (omega arith) below))

pub raw_range : RawRateRange
unfolding raw_rate
raw_range hertz scale p n rate w lo hi =
    let half = wanted_at_least_half rate w lo hi in
    let double = wanted_at_most_double rate w lo hi in
    let some-period : 0 < 2 * note_period hertz n = omega arith in
    let below : raw_rate p (note_period hertz n) < greatest_rate + 1 = (div-lt_iff_lt-mul some-period).1 (omega arith) in
    ((le-div_iff_mul-le some-period).1 (omega arith), omega arith)

pub raw_nearest : RawRateRule
unfolding raw_rate
raw_nearest p w h =
    let some-w : 0 < 2 * w = omega arith in
    let r = raw_rate p w in
    let next : r < r + 1 = omega arith in
    let low = (le-div_iff_mul-le some-w).0 (le_refl r) in
    let high = (div-lt_iff_lt-mul some-w).0 next in
    omega (arith, low, high, mul_comm (2 * w) r, mul_comm (2 * w) (r + 1))

-- every raw rate that is moved toward lies from a half to two, whatever is wanted
pub toward_range : TowardRange
unfolding raw_toward
toward_range p w =
    cond_case (ltb 0 w && within least_rate greatest_rate (raw_rate p w)) (raw_rate p w) fresh_rate (λ (r : ℕ). (least_rate ≤ r) × (r ≤ greatest_rate))
    (λ e. within-is least_rate greatest_rate (raw_rate p w) (and_right (ltb 0 w) _ e))
    (λ e. omega arith)

-- no raw rate of a period and a wanted one is too long for 32 bits
pub raw-fits : (p w : ℕ) → p ≤ greatest_period → least_period ≤ w → raw_rate p w ≤ 4294967295
unfolding raw_rate
raw-fits p w hi lo =
    let some-w : 0 < 2 * w = omega arith in
    let below : raw_rate p w < 4194304 = (div-lt_iff_lt-mul some-w).1 (omega arith) in
    omega arith

-- toward a wanted period, by whether the raw rate is in its bounds; and without one
pub toward-within : (p w : ℕ) → 0 < w → Within least_rate greatest_rate (raw_rate p w) → raw_toward p w ≡ raw_rate p w
unfolding raw_toward
toward-within p w h k = rw (lt-ltb 0 w h, is_within least_rate greatest_rate (raw_rate p w) k)

pub toward_outside : (p w : ℕ) → (Within least_rate greatest_rate (raw_rate p w) → ⊥) → raw_toward p w ≡ fresh_rate
unfolding raw_toward
toward_outside p w n = rw (and_no (ltb 0 w) (not_within least_rate greatest_rate (raw_rate p w) n))

pub toward-none : (p : ℕ) → raw_toward p 0 ≡ fresh_rate
unfolding raw_toward
toward-none p = refl

module _ (hertz : ℕ) {n : ℕ} where
  -- the wanted period of a note of the table, and of one outside it
  pub period_of_table : OfTable hertz n → wanted_period hertz n ≡ note_period hertz n
  unfolding wanted_period
  period_of_table t = rw (le-leb (first_note hertz) n t.from, lt-ltb n (end hertz) t.upto)

  pub period-below : n < first_note hertz → wanted_period hertz n ≡ 0
  unfolding wanted_period
  period-below h = rw (lt-leb (first_note hertz) n h)

  pub period-above : end hertz ≤ n → wanted_period hertz n ≡ 0
  unfolding wanted_period
  period-above h = rw (and_no (leb (first_note hertz) n) (le-ltb n (end hertz) h))

module _ {hertz : ℕ} (rate : SampleRate hertz) (n : ℕ) where
  -- a wanted period is one of the table's
  pub wanted_period_range : 0 < wanted_period hertz n → (least_period ≤ wanted_period hertz n) × (wanted_period hertz n ≤ greatest_period)
  wanted_period_range =
      by (ltb n (first_note hertz))
      (λ e h. absurd (omega (arith, period-below hertz (ltb-true n (first_note hertz) e))))
      (λ e. by (ltb n (end hertz))
      (λ f h. let t : OfTable hertz n = record { from = ltb-false n (first_note hertz) e; upto = ltb-true n (end hertz) f } in
      rw (period_of_table hertz t) (note_period_range rate t))
      (λ f h. absurd (omega (arith, period-above hertz (ltb-false n (end hertz) f)))))

  pub wanted_period_upto : wanted_period hertz n ≤ greatest_period
  wanted_period_upto = by (ltb 0 (wanted_period hertz n)) (λ e. (wanted_period_range (ltb-true 0 _ e)).1) (λ e. omega (arith, ltb-false 0 (wanted_period hertz n) e))

-- a period and its wanted note of the scale: the raw rate is never out of its bounds
pub goal_of_scale : {hertz scale p n : ℕ} → SampleRate hertz → IsWanted hertz scale p n → least_period ≤ p → p ≤ greatest_period →
    goal_of hertz p n ≡ record { note = n; raw = raw_rate p (note_period hertz n) }
unfolding goal_of
goal_of_scale {hertz} {scale} {p} {n} rate w lo hi =
    let t = wanted_of_table w in
    let some-period : 0 < note_period hertz n = omega (arith, note_period_range rate t) in
    rw (period_of_table hertz t, toward-within p (note_period hertz n) some-period (raw_range hertz scale p n rate w lo hi))

-- a goal of any note, and of what is in force
pub goal_of_in : (hertz p : ℕ) {n : ℕ} → n ≤ no_note → GoalIn (goal_of hertz p n)
unfolding goal_of
goal_of_in hertz p {n} h = let k = toward_range p (wanted_period hertz n) in record { note = h; from = k.0; upto = k.1 }

wanted_in : {f : InForce} → ForceIn f → (p : ℕ) → wanted_note f p ≤ no_note
unfolding wanted_note note_of
wanted_in {f} r p =
    let scale = (ranges f.settings r.settings).scale in
    let (n, w) = wanted-some f.hertz f.settings.scale p r.hertz scale.0 scale.1 in
    cond_case (eqb f.settings.mode scale_mode) (note_of (wanted f.hertz f.settings.scale p)) f.key (λ (m : ℕ). m ≤ no_note)
    (λ e. rw w.0 (omega (arith, w.1.in_table.1, (table-span r.hertz).end)))
    (λ e. r.key)

pub goal_in : {f : InForce} → ForceIn f → (p : ℕ) → GoalIn (goal f p)
unfolding goal
goal_in {f} r p = goal_of_in f.hertz p (wanted_in r p)

-- by the mode
pub note_of_scale : (f : InForce) (p : ℕ) → f.settings.mode ≡ scale_mode → wanted_note f p ≡ note_of (wanted f.hertz f.settings.scale p)
unfolding wanted_note
note_of_scale f p e = rw (eq-eqb f.settings.mode scale_mode e)

pub note_of_keyboard : (f : InForce) (p : ℕ) → (f.settings.mode ≡ scale_mode → ⊥) → wanted_note f p ≡ f.key
unfolding wanted_note
note_of_keyboard f p n = rw (ne_eqb f.settings.mode scale_mode n)

pub tuned_in : {f : InForce} → ForceIn f → {t : Tone} → ToneIn t → (p : ℕ) → least_period ≤ p → p ≤ greatest_period → ToneIn (tuned f t p)
unfolding tuned
tuned_in {f} r {t} i p lo hi =
    let g = goal_in r p in
    let h = tone-rate i in
    let decay = f.settings.decay in
    let k = rate_range {decay = decay} (omega (arith, (ranges f.settings r.settings).decay.1)) (tone-kept i) h.0 h.1 g.from g.upto in
    pitched lo hi g.note k.0 k.1 (omega (arith, kept_range decay t.rate t.kept (goal f p).raw))
