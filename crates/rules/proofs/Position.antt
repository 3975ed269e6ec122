-- The read position, by how far it lies behind the input: a natural number b, which grows by a sample and shrinks by the rate.
-- A cycle is longer than what a rate can run ahead, and shorter than 1,000 samples, so one of them mends either bound and never breaks the other.
use Rattle.std.specs.Prelude.{◌≡◌, ℕ, suc, ◌+◌, ◌*◌, ◌-◌, ◌/◌, ◌≤◌, ◌<◌, ltb, length, ℤ, ◌+ℤ◌, ◌-ℤ◌, ◌*ℤ◌, ◌≤ℤ◌}
use Rattle.std.proofs.Math.Path.{refl, ap}
use Rattle.std.proofs.Common.{sym, ◌∙◌, subst, lit<}
use mathlib.Core.List.{List, [], ◌∷◌}
use native.Mathlib.Omega.{arith}
use borrow.Author.Tests.{ltb-true, ltb-false, lt-ltb, le-ltb}
use Rattle.std.proofs.Math.IntN.{pos, nat_abs, +ℤ_idr}
use Rattle.std.specs.Int.Signed.{clash_ℤ}
use Rattle.whole.specs.Tests.{by, cond_yes, cond_no, true-T}
use Rattle.whole.specs.Bounds.{minus-down}
use Rattle.whole.specs.Order.{not_less, minus_less, minus_not_above, below-is}
use Rattle.whole.specs.Floor.{floor-is, floor-one}
use Rattle.whole.specs.Ring.{var, con, ◌⊕◌, ◌⊖◌, ◌⊗◌, solve}
use Rattle.rules.specs.declared.Tone.{Tone}
use Rattle.rules.specs.Rules.{Sound, no_note, least_rate, greatest_rate, least_period, greatest_period, input_at, cycle_repeated, cycle_dropped, cycles, growth, sample_at, through, whole_of, fraction_of, reading}
use Rattle.rules.specs.Facts.{ToneIn, pitched, unpitched, InBounds}
use Rattle.rules.specs.Position.{Behind, Kept, Paced, fraction_behind, whole_behind}

pub behind_in_bounds : {n b : ℕ} {at : ℤ} → Behind n at b → InBounds n at
unfolding input_at
behind_in_bounds {n} {b} h =
    record {
      not_ahead = rw h.is (not_less (minus_not_above (n * 65536) b));
      not_far = rw h.is (not_less (minus_less (n * 65536) b 65536000 ∙ le-ltb 65536000 b h.near));
    }

pub in_bounds_behind : {n : ℕ} {at : ℤ} → InBounds n at → Behind n at (nat_abs (input_at n -ℤ at))
unfolding input_at
in_bounds_behind {n} {at} h =
    let i = pos (n * 65536) in
    let b = nat_abs (i -ℤ at) in
    let e : at ≡ i -ℤ pos b =
    solve (i ∷ at ∷ []) (var 1) (var 0 ⊖ (var 0 ⊖ var 1)) refl ∙ ap (λ (z : ℤ). i -ℤ z) (sym (below-is at i h.not_ahead)) in
    record {
      is = e;
      near =
          by (ltb 65536000 b)
          (λ t. clash_ℤ (record { lt = true-T (minus_less (n * 65536) b 65536000 ∙ t) }) (subst (λ (z : ℤ). (i -ℤ pos 65536000) ≤ℤ z) e h.not_far))
          (λ t. ltb-false 65536000 b t);
    }

-- no other number says how far
pub behind-one : {n b : ℕ} {at : ℤ} → Behind n at b → b ≡ nat_abs (input_at n -ℤ at)
behind-one {n} {b} h =
    ap nat_abs (solve (input_at n ∷ pos b ∷ []) (var 1) (var 0 ⊖ (var 0 ⊖ var 1)) refl ∙ ap (λ (z : ℤ). input_at n -ℤ z) (sym h.is))

-- ---- what is repeated and dropped
module _ (n p h : ℕ) {at : ℤ} where
  pub repeated-none : at ≡ input_at n -ℤ pos h → cycle_repeated n p at ≡ []
  unfolding cycle_repeated input_at
  repeated-none e = rw (e, minus_not_above (n * 65536) h)

  pub repeated-one : at ≡ input_at n +ℤ pos h → 0 < h → cycle_repeated n p at ≡ p ∷ []
  unfolding cycle_repeated input_at
  repeated-one e k = rw (e, lt-ltb (n * 65536) (n * 65536 + h) (omega arith))

  pub dropped-none : at ≡ input_at n -ℤ pos h → h ≤ 65536000 → cycle_dropped n p at ≡ []
  unfolding cycle_dropped input_at
  dropped-none e k = rw (e, minus_less) (cond_no (p ∷ []) [] (le-ltb _ h (omega arith)))

  pub dropped-one : at ≡ input_at n -ℤ pos h → 65536000 < h → cycle_dropped n p at ≡ p ∷ []
  unfolding cycle_dropped input_at
  dropped-one e k = rw (e, minus_less) (cond_yes (p ∷ []) [] (lt-ltb _ h (omega arith)))

-- ---- one sample's growth

-- from what is repeated and dropped, and where the position then stands
growth_of : (n rate p : ℕ) (at : ℤ) {again gone : List ℕ} {z : ℤ} → cycle_repeated n p (at +ℤ pos rate) ≡ again
    → cycle_dropped n p (at +ℤ pos rate -ℤ pos (cycles again)) ≡ gone → at +ℤ pos rate -ℤ pos (cycles again) +ℤ pos (cycles gone) ≡ z
    → growth n rate p at ≡ record { position = z; repeats = again; drops = gone }
unfolding growth
growth_of n rate p at a d e = rw (a, d, e)

-- c behind, and then on by r, or back by r
on-behind : (z : ℤ) (c r : ℕ) → r ≤ c → z -ℤ pos c +ℤ pos r ≡ z -ℤ pos (c - r)
on-behind z c r h =
    solve (z ∷ pos c ∷ pos r ∷ []) (var 0 ⊖ var 1 ⊕ var 2) (var 0 ⊖ (var 1 ⊖ var 2)) refl ∙ ap (λ (v : ℤ). z -ℤ v) (minus-down c r h)

on-ahead : (z : ℤ) (c r : ℕ) → c ≤ r → z -ℤ pos c +ℤ pos r ≡ z +ℤ pos (r - c)
on-ahead z c r h =
    solve (z ∷ pos c ∷ pos r ∷ []) (var 0 ⊖ var 1 ⊕ var 2) (var 0 ⊕ (var 2 ⊖ var 1)) refl ∙ ap (λ (v : ℤ). z +ℤ v) (minus-down r c h)

back-behind : (z : ℤ) (r c : ℕ) → r ≤ c → z +ℤ pos r -ℤ pos c ≡ z -ℤ pos (c - r)
back-behind z r c h =
    solve (z ∷ pos c ∷ pos r ∷ []) (var 0 ⊕ var 2 ⊖ var 1) (var 0 ⊖ (var 1 ⊖ var 2)) refl ∙ ap (λ (v : ℤ). z -ℤ v) (minus-down c r h)

module _ (n b rate p : ℕ) {at : ℤ} (is : at ≡ input_at n -ℤ pos b) where
  -- the input moves on by a sample
  grown : at +ℤ pos rate ≡ input_at (suc n) -ℤ pos (b + 65536) +ℤ pos rate
  unfolding input_at
  grown =
      let i : pos (suc n * 65536) ≡ pos (n * 65536) +ℤ pos 65536 = ap pos (omega arith) in
      rw (is, i)
      (solve (pos (n * 65536) ∷ pos b ∷ pos rate ∷ []) (var 0 ⊖ var 1 ⊕ var 2) (var 0 ⊕ con (pos 65536) ⊖ (var 1 ⊕ con (pos 65536)) ⊕ var 2) refl)

  grown-behind : rate ≤ b + 65536 → at +ℤ pos rate -ℤ pos 0 ≡ input_at (suc n) -ℤ pos (b + 65536 - rate)
  grown-behind h = +ℤ_idr (at +ℤ pos rate) ∙ grown ∙ on-behind (input_at (suc n)) (b + 65536) rate h

  pub growth-keeps : rate ≤ b + 65536 → b + 65536 - rate ≤ 65536000
      → growth (suc n) rate p at ≡ record { position = input_at (suc n) -ℤ pos (b + 65536 - rate); repeats = []; drops = [] }
  unfolding cycles
  growth-keeps h k =
      let e = grown-behind h in
      growth_of (suc n) rate p at
      (repeated-none (suc n) p (b + 65536 - rate) (sym (+ℤ_idr (at +ℤ pos rate)) ∙ e))
      (dropped-none (suc n) p (b + 65536 - rate) e k)
      (+ℤ_idr (at +ℤ pos rate -ℤ pos 0) ∙ e)

  pub growth-drops : 65536000 < b + 65536 - rate → p ≤ 225280
      → growth (suc n) rate p at ≡ record { position = input_at (suc n) -ℤ pos (b + 65536 - rate - 256 * p); repeats = []; drops = p ∷ [] }
  unfolding cycles
  growth-drops k l =
      let e = grown-behind (omega arith) in
      let c : 256 * p + 0 ≡ 256 * p = omega arith in
      growth_of (suc n) rate p at
      (repeated-none (suc n) p (b + 65536 - rate) (sym (+ℤ_idr (at +ℤ pos rate)) ∙ e))
      (dropped-one (suc n) p (b + 65536 - rate) e k)
      (rw (e, c) (on-behind (input_at (suc n)) (b + 65536 - rate) (256 * p) (omega arith)))

  pub growth-repeats : b + 65536 < rate → rate ≤ 65536 + 256 * p → p ≤ 225280
      → growth (suc n) rate p at ≡ record { position = input_at (suc n) -ℤ pos (b + 65536 + 256 * p - rate); repeats = p ∷ []; drops = [] }
  unfolding cycles
  growth-repeats h k m =
      let a = grown ∙ on-ahead (input_at (suc n)) (b + 65536) rate (omega arith) in
      let c : 256 * p + 0 - (rate - (b + 65536)) ≡ b + 65536 + 256 * p - rate = omega arith in
      let e : at +ℤ pos rate -ℤ pos (256 * p + 0) ≡ input_at (suc n) -ℤ pos (b + 65536 + 256 * p - rate) =
      rw a (back-behind (input_at (suc n)) (rate - (b + 65536)) (256 * p + 0) (omega arith) ∙ ap (λ (v : ℕ). input_at (suc n) -ℤ pos v) c) in
      growth_of (suc n) rate p at
      (repeated-one (suc n) p (rate - (b + 65536)) a (omega arith))
      (dropped-none (suc n) p (b + 65536 + 256 * p - rate) e (omega arith))
      (+ℤ_idr (at +ℤ pos rate -ℤ pos (256 * p + 0)) ∙ e)

-- a tone in its ranges paces the position, and so does any other rate up to 65536 + 256 x period beside a period
pub tone-paced : {t : Tone} → ToneIn t → Paced t.rate t.period
tone-paced (pitched a b n c d k) = record { slow = omega arith; fast = omega arith; upto = b }
tone-paced (unpitched z r k) = record { slow = omega arith; fast = omega arith; upto = omega arith }

-- its rate is between a half and two
pub tone-rate : {t : Tone} → ToneIn t → (least_rate ≤ t.rate) × (t.rate ≤ greatest_rate)
tone-rate (pitched a b n c d k) = (c, d)
tone-rate (unpitched z r k) = omega arith

-- and what is kept is less than one of its units
pub tone-kept : {t : Tone} → ToneIn t → t.kept ≤ 255
tone-kept (pitched a b n c d k) = k
tone-kept (unpitched z r k) = k

-- by its period
module _ {t : Tone} where
  pub rate_without : t.period ≡ 0 → ToneIn t → t.rate ≡ 65536
  rate_without z (pitched a b c d e k) = absurd (omega arith)
  rate_without z (unpitched p r k) = r

  pub ranges_with : (t.period ≡ 0 → ⊥) → ToneIn t → ((least_period ≤ t.period) × (t.period ≤ greatest_period)) × (t.note ≤ no_note) × ((least_rate ≤ t.rate) × (t.rate ≤ greatest_rate))
  ranges_with z (pitched a b c d e k) = ((a, b), c, (d, e))
  ranges_with z (unpitched p r k) = absurd (z p)

growth-kept : {n b : ℕ} {at : ℤ} (rate p : ℕ) → Behind n at b → Paced rate p → Kept (suc n) (growth (suc n) rate p at)
growth-kept {n} {b} rate p h k =
    by (ltb (b + 65536) rate)
    (λ t. let l = ltb-true (b + 65536) rate t in
    rw (growth-repeats n b rate p h.is l k.fast k.upto)
    (record { behind = b + 65536 + 256 * p - rate; still = record { is = refl; near = omega arith }; one = omega arith }))
    (λ t. let l = ltb-false (b + 65536) rate t in
    by (ltb 65536000 (b + 65536 - rate))
    (λ u. let m = ltb-true 65536000 (b + 65536 - rate) u in
    rw (growth-drops n b rate p h.is m k.upto)
    (record { behind = b + 65536 - rate - 256 * p; still = record { is = refl; near = omega (arith, h.near) }; one = omega arith }))
    (λ u. let m = ltb-false 65536000 (b + 65536 - rate) u in
    rw (growth-keeps n b rate p h.is l m)
    (record { behind = b + 65536 - rate; still = record { is = refl; near = m }; one = omega arith })))

module _ {n : ℕ} {at : ℤ} (rate p : ℕ) (h : InBounds n at) (paced : Paced rate p) where
  pub growth_in_bounds : InBounds (suc n) (growth (suc n) rate p at).position
  growth_in_bounds = behind_in_bounds (growth-kept rate p (in_bounds_behind h) paced).still

  pub at_most_one : length (growth (suc n) rate p at).repeats + length (growth (suc n) rate p at).drops ≤ 1
  at_most_one = (growth-kept rate p (in_bounds_behind h) paced).one

pub fraction_below : (b : ℕ) → fraction_behind b < 65536
fraction_below b = omega arith

-- in its bounds nothing older than 1,005 samples is read
pub whole-within : (b : ℕ) → b ≤ 65536000 → whole_behind b + 5 ≤ 1005
whole-within b h = omega arith

module _ (x : Sound) (n b : ℕ) where
  whole_is : whole_of (input_at n -ℤ pos b) ≡ pos n -ℤ pos (whole_behind b)
  unfolding input_at whole_of
  whole_is =
      let q = whole_behind b in
      floor-one (floor-is (pos (n * 65536) -ℤ pos b) 65536 (lit< tt))
      (record {
        rest = fraction_behind b;
        small = fraction_below b;
        whole =
            solve (pos n ∷ pos q ∷ pos b ∷ []) (var 0 ⊗ con (pos 65536) ⊖ var 2) ((var 0 ⊖ var 1) ⊗ con (pos 65536) ⊕ (var 1 ⊗ con (pos 65536) ⊖ var 2)) refl
            ∙ ap (λ (z : ℤ). (pos n -ℤ pos q) *ℤ pos 65536 +ℤ z) (minus-down (q * 65536) b (omega arith));
      })

  fraction_is : fraction_of (input_at n -ℤ pos b) ≡ fraction_behind b
  unfolding fraction_of input_at
  fraction_is =
      let q = whole_behind b in
      ap (λ (z : ℤ). nat_abs (pos (n * 65536) -ℤ pos b -ℤ z *ℤ pos 65536)) whole_is
      ∙ ap nat_abs (solve (pos n ∷ pos q ∷ pos b ∷ []) (var 0 ⊗ con (pos 65536) ⊖ var 2 ⊖ (var 0 ⊖ var 1) ⊗ con (pos 65536)) (var 1 ⊗ con (pos 65536) ⊖ var 2) refl ∙ minus-down (q * 65536) b (omega arith))

  -- the sample of an age
  age_is : (k : ℕ) (i : ℤ) → pos n -ℤ pos 1 -ℤ i ≡ pos k → sample_at x n i ≡ x k
  unfolding sample_at
  age_is k i e = rw e

  -- ages 2 and more are read, so nothing that is still to come
  pub reading-behind : {at : ℤ} → at ≡ input_at n -ℤ pos b
      → reading x n at ≡ through (x (whole_behind b + 5)) (x (whole_behind b + 4)) (x (whole_behind b + 3)) (x (whole_behind b + 2)) (fraction_behind b / 16)
  unfolding reading
  reading-behind e =
      let q = whole_behind b in
      let i = pos n -ℤ pos q in
      rw (
        e,
        whole_is,
        fraction_is,
        age_is (q + 5) (i -ℤ pos 5 -ℤ pos 1) (solve (pos n ∷ pos q ∷ []) (var 0 ⊖ con (pos 1) ⊖ (var 0 ⊖ var 1 ⊖ con (pos 5) ⊖ con (pos 1))) (var 1 ⊕ con (pos 5)) refl),
        age_is (q + 4) (i -ℤ pos 5) (solve (pos n ∷ pos q ∷ []) (var 0 ⊖ con (pos 1) ⊖ (var 0 ⊖ var 1 ⊖ con (pos 5))) (var 1 ⊕ con (pos 4)) refl),
        age_is (q + 3) (i -ℤ pos 5 +ℤ pos 1) (solve (pos n ∷ pos q ∷ []) (var 0 ⊖ con (pos 1) ⊖ (var 0 ⊖ var 1 ⊖ con (pos 5) ⊕ con (pos 1))) (var 1 ⊕ con (pos 3)) refl),
        age_is (q + 2) (i -ℤ pos 5 +ℤ pos 2) (solve (pos n ∷ pos q ∷ []) (var 0 ⊖ con (pos 1) ⊖ (var 0 ⊖ var 1 ⊖ con (pos 5) ⊕ con (pos 2))) (var 1 ⊕ con (pos 2)) refl),
      )
