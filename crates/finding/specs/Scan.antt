-- The scan for the two least lows, from the highest lag down. A lag is passed over where its D is too great to pass even with the greatest E.
use Rattle.std.specs.Prelude.{◌≡◌, refl, true, false, ◌&&◌, List, ltb, leb, get_or, Option, Some, None, IfSome}
use Rattle.std.proofs.Common.{sym, subst, ◌∙◌, add-zero, add-suc, add-sub_of_le, div-lt_iff_lt-mul, mul-le-mul_left, ltb-true, ltb-false, le-leb}
use Rattle.std.proofs.Math.Path.{ap}
use Rattle.std.proofs.Math.Option.{none, some}
use Rattle.std.proofs.lemmas.Option.{IfSome_then}
use Prim.Native.Nat.{ℕ, zero, suc, ◌+◌, ◌-◌, ◌*◌, ◌/◌, ◌≤◌, ◌<◌}
use native.Mathlib.Omega.{arith}
use Rattle.std.proofs.lemmas.Bool.{lt-leb}
use Rattle.whole.specs.Tests.{by, and_no}
use Rattle.rules.specs.declared.Settings.{Settings}
use Rattle.rules.specs.Rules.{Sound, E, D, passes, meets_eps, is_low, least_from, low_above, choice, found_by, found}
use Rattle.rules.proofs.Energies.{E-grows}
use Rattle.finding.specs.declared.Lows.{Lows}
use Rattle.finding.specs.Finding.{lag_of, Measured, distance-at}

-- ---- definitions

-- t holds the least low above a lag, and the least above that one
pub record Leasts (g : Settings) (y : Sound) (above : ℕ) (t : Lows) : Type 0 where
  pub first : lag_of t.first ≡ low_above g y above
  pub second : IfSome t.first (λ L. lag_of t.second ≡ low_above g y L)

-- they lie above that lag in this order, and at most at 109
pub record InOrder (above : ℕ) (t : Lows) : Type 0 where
  pub first : IfSome t.first (λ L. (above < L) × (L ≤ 109))
  pub second : IfSome t.second (λ M. (M ≤ 109) × IfSome t.first (λ L. L < M))

-- the lags above low up to high were passed over: their D, of which d are those from lag 2 on, is more than most
pub record Passed (d : List ℕ) (most low high : ℕ) : Type 0 where
  pub from : 2 ≤ low
  pub upto : low ≤ high
  pub over : (L : ℕ) → low < L → L ≤ high → most < get_or d (L - 2) 0

-- ---- lags passed over: none yet, and one more
pub passed_none : {d : List ℕ} {most l : ℕ} → 2 ≤ l → Passed d most l l
passed_none lo = record { from = lo; upto = omega arith; over = λ L a b. absurd (omega arith) }

pub passed-more : {d : List ℕ} {most k l : ℕ} → 2 < k → most < get_or d (k - 2) 0 → Passed d most k l → Passed d most (k - 1) l
passed-more {k = k} lo far p =
    record {
      from = omega arith;
      upto = omega (arith, p.upto);
      over = λ L a b.
          by (ltb k L)
          (λ t. p.over L (ltb-true k L t) b)
          (λ t. let e : k ≡ L = omega (arith, ltb-false k L t) in rw (← e) far);
    }

-- ---- one lag down
module _ (g : Settings) (y : Sound) (above : ℕ) (h : above < 109) where
  one_down : low_above g y above ≡ least_from (is_low g y) (suc above) (suc (109 - suc above))
  unfolding low_above
  one_down = let e : 109 - above ≡ suc (109 - suc above) = omega arith in ap (least_from (is_low g y) (suc above)) e

  low-here : is_low g y (suc above) ≡ true → low_above g y above ≡ some (suc above)
  unfolding least_from
  low-here t = one_down ∙ rw t

  no_low_here : is_low g y (suc above) ≡ false → low_above g y above ≡ low_above g y (suc above)
  unfolding least_from low_above
  no_low_here t = one_down ∙ rw t

-- no low among the lags above a, d of them
no_low_among : (g : Settings) (y : Sound) (a d : ℕ) → a + d ≤ 109 → ((L : ℕ) → a < L → L ≤ a + d → is_low g y L ≡ false) → low_above g y a ≡ low_above g y (a + d)
no_low_among g y a zero h f = ap (low_above g y) (sym (add-zero a))
no_low_among g y a (suc d) h f =
    no_low_among g y a d (omega arith) (λ L lo hi. f L lo (omega arith))
    ∙ no_low_here g y (a + d) (omega arith) (f (suc (a + d)) (omega arith) (omega arith))
    ∙ ap (low_above g y) (sym (add-suc a d))

-- ---- a lag whose D is too great does not pass: E does not fall with the lag
too_far : (g : Settings) (y : Sound) (L : ℕ) → L ≤ 110 → g.eps * E y 110 / 1024 < D y L → is_low g y L ≡ false
unfolding is_low passes meets_eps
too_far g y L h far =
    let some-parts : 0 < 1024 = omega arith in
    and_no (ltb (D y L) (D y (L - 1)) && leb (D y L) (D y (L + 1)))
    (rw (lt-leb (1024 * D y L) (g.eps * E y L) (omega (arith, mul-le-mul_left g.eps (E-grows y h), (div-lt_iff_lt-mul some-parts).0 far))))

-- ---- the scan: at first, a lag that is a low, one that is none, and lags passed over
pub none_in_order : (above : ℕ) → InOrder above (record { first = None; second = None })
none_in_order above = record { first = tt; second = tt }

pub lower_in_order : {a b : ℕ} {t : Lows} → b ≤ a → InOrder a t → InOrder b t
lower_in_order {t = t} l r = record { first = IfSome_then t.first r.first (λ L p. (omega arith, p.1)); second = r.second }

pub low_in_order : {l : ℕ} {t : Lows} → 3 ≤ l → l ≤ 109 → InOrder l t → InOrder (l - 1) (record { first = Some l; second = t.first })
low_in_order {t = t} lo hi r = record { first = (omega arith, hi); second = IfSome_then t.first r.first (λ M p. (p.1, p.0)) }

module _ {g : Settings} {y : Sound} where
  pub leasts_none : Leasts g y 109 (record { first = None; second = None })
  unfolding low_above least_from
  leasts_none = record { first = refl; second = tt }

  module _ {l : ℕ} {t : Lows} (lo : 3 ≤ l) (hi : l ≤ 109) (r : Leasts g y l t) where
    pub leasts_low : is_low g y l ≡ true → Leasts g y (l - 1) (record { first = Some l; second = t.first })
    leasts_low t =
        let e : suc (l - 1) ≡ l = omega arith in
        record { first = sym (low-here g y (l - 1) (omega arith) (rw e t) ∙ ap some e); second = r.first }

    pub leasts_no_low : is_low g y l ≡ false → Leasts g y (l - 1) t
    leasts_no_low t =
        let e : suc (l - 1) ≡ l = omega arith in
        record { first = r.first ∙ sym (no_low_here g y (l - 1) (omega arith) (rw e t) ∙ ap (low_above g y) e); second = r.second }

  pub leasts_passed : {d e : List ℕ} {low high most : ℕ} {t : Lows} → Measured y d e → most ≡ g.eps * get_or e 108 0 / 1024 → Passed d most low high → high ≤ 109
      → Leasts g y high t → Leasts g y low t
  leasts_passed {low = low} {high = high} m q p hi r =
      let gap : low + (high - low) ≡ high = add-sub_of_le p.upto in
      record {
        first = r.first ∙ sym (no_low_among g y low (high - low) (omega arith) (λ L lo up. too_far g y L (omega arith) (far L lo (omega arith))) ∙ ap (low_above g y) gap);
        second = r.second;
      }
    where
      far : (L : ℕ) → low < L → L ≤ high → g.eps * E y 110 / 1024 < D y L
      far L lo up =
          let top = ap (λ (n : ℕ). g.eps * n / 1024) (m.energy 108 (omega arith)) in
          let here = distance-at m {j = L - 2} {L = L} (omega arith) (omega (arith, p.from)) in
          omega (arith, top, p.over L lo up)

-- ---- the lag found, by the two least lows
module _ {g : Settings} (x : Sound) {y : Sound} {t : Lows} (r : Leasts g y 2 t) where
  pub found_none : t.first ≡ None → found g x y ≡ none
  unfolding found found_by
  found_none e = ap (found_by g x y) (sym r.first ∙ ap lag_of e)

  module _ {L : ℕ} (e : t.first ≡ Some L) where
    found_first_lem : found g x y ≡ found_by g x y (some L)
    unfolding found
    found_first_lem = ap (found_by g x y) (sym r.first ∙ ap lag_of e)

    pub found-long : 55 ≤ L → found g x y ≡ some (8 * L)
    unfolding found_by
    found-long h = found_first_lem ∙ rw (le-leb 55 L h)

    module _ (l : L < 55) where
      second-is : lag_of t.second ≡ low_above g y L
      second-is = subst (λ (o : Option ℕ). IfSome o (λ M. lag_of t.second ≡ low_above g y M)) e r.second

      by_the_second : found g x y ≡ choice x L (lag_of t.second)
      unfolding found_by
      by_the_second = found_first_lem ∙ rw (lt-leb 55 L l) (ap (choice x L) (sym second-is))

      pub found_no_second : t.second ≡ None → found g x y ≡ none
      unfolding choice
      found_no_second n = by_the_second ∙ ap (λ (o : Option ℕ). choice x L (lag_of o)) n

      pub found-choice : {M : ℕ} → t.second ≡ Some M → found g x y ≡ choice x L (some M)
      found-choice n = by_the_second ∙ ap (λ (o : Option ℕ). choice x L (lag_of o)) n
