-- The vertex lies within half a sample of the best lag, since that one's D is the least of the three; so every period has its range.
-- The eight lags move by at most one, keep their range and keep the best among them.
use Rattle.std.specs.Prelude.{◌≡◌, cond, ◌&&◌, [], ◌∷◌, ℕ, suc, ◌+◌, ◌*◌, ◌-◌, ◌/◌, ◌≤◌, ◌<◌, ltb, eqb, ℤ, negsuc, nat_abs, ◌+ℤ◌, ◌-ℤ◌, ◌*ℤ◌}
use Rattle.std.proofs.Math.Path.{refl}
use Rattle.std.proofs.Common.{◌∙◌, subst, div-lt_iff_lt-mul, arith, ltb-true}
use Rattle.std.proofs.lemmas.Bool.{eqb-false}
use Rattle.std.proofs.Math.IntN.{pos, sub_ℕ}
use Rattle.whole.specs.Tests.{cond_case, and_left, and_right}
use Rattle.whole.specs.Bounds.{near, near_range, pos_minus_pos}
use Rattle.whole.specs.Floor.{floor-is}
use Rattle.whole.specs.Numbers.{Floor, floor_div}
use Rattle.whole.specs.Ring.{var, con, ◌⊕◌, ◌⊖◌, ◌⊗◌, solve}
use Rattle.rules.specs.Rules.{Sound, D, best, offset, period, moved}
use Rattle.rules.specs.Sounds.{PeriodRange}
use Rattle.rules.proofs.Choosing.{best-first}
use Rattle.rules.specs.Periods.{shift}

-- ---- the offset

-- 256 (D1 - D3) + m, as one difference of natural numbers
top_is : (D1 D3 m : ℕ) → pos 2 *ℤ (pos 128 *ℤ (pos D1 -ℤ pos D3)) +ℤ pos m ≡ sub_ℕ (256 * D1 + m) (256 * D3)
top_is D1 D3 m =
    solve (pos D1 ∷ pos D3 ∷ pos m ∷ []) (con (pos 2) ⊗ (con (pos 128) ⊗ (var 0 ⊖ var 1)) ⊕ var 2) (con (pos 256) ⊗ var 0 ⊕ var 2 ⊖ con (pos 256) ⊗ var 1) refl
    ∙ pos_minus_pos (256 * D1 + m) (256 * D3)

floor-within : (a b m : ℕ) → 0 < m → a < b + 129 * m → b ≤ a + 128 * m → nat_abs (floor_div (sub_ℕ a b) m) ≤ 128
floor-within a b m p u l =
    cond_case (ltb a b) (negsuc (b - suc a)) (pos (a - b)) (λ z. nat_abs (floor_div z m) ≤ 128)
    (λ t. let k = ltb-true a b t in let q : (b - suc a) / m < 128 = (div-lt_iff_lt-mul p).1 (omega arith) in omega arith)
    (λ t. let q : (a - b) / m < 129 = (div-lt_iff_lt-mul p).1 (omega arith) in omega arith)

-- halves go up: 1/2 to 1, and -1/2 to 0
pub halves_up : (offset 257 0 255 ≡ pos 1) × (offset 255 0 257 ≡ pos 0)
unfolding offset
halves_up = (refl, refl)

module _ (D1 D2 D3 : ℕ) (p : D2 < D1) (q : D2 ≤ D3) where
  -- the nearest whole number, halves up: 2 x 128 (D1 - D3) + m by 2 m, rounded down
  pub offset-is : Floor (pos 2 *ℤ (pos 128 *ℤ (pos D1 -ℤ pos D3)) +ℤ pos (D1 + D3 - 2 * D2)) (2 * (D1 + D3 - 2 * D2)) (offset D1 D2 D3)
  unfolding offset
  offset-is = floor-is (pos 2 *ℤ (pos 128 *ℤ (pos D1 -ℤ pos D3)) +ℤ pos (D1 + D3 - 2 * D2)) (2 * (D1 + D3 - 2 * D2)) (omega arith)

  pub offset-within : nat_abs (offset D1 D2 D3) ≤ 128
  unfolding offset
  offset-within =
      rw (top_is D1 D3 (D1 + D3 - 2 * D2))
      (floor-within (256 * D1 + (D1 + D3 - 2 * D2)) (256 * D3) (2 * (D1 + D3 - 2 * D2)) (omega arith) (omega arith) (omega arith))

module _ (x : Sound) (low : ℕ) where
  abbrev at : ℕ
  at = best x low

  pub best_offset_within : 0 < at → at < 7 → nat_abs (offset (D x (low + at - 1)) (D x (low + at)) (D x (low + at + 1))) ≤ 128
  best_offset_within a b =
      let f = best-first x low in
      let below : low + (at - 1) ≡ low + at - 1 = omega arith in
      let above : low + (at + 1) ≡ low + at + 1 = omega arith in
      offset-within (D x (low + at - 1)) (D x (low + at)) (D x (low + at + 1))
      (subst (λ (L : ℕ). D x (low + at) < D x L) below (f.first (at - 1) (omega arith)))
      (subst (λ (L : ℕ). D x (low + at) ≤ D x L) above (f.least (at + 1) (omega arith)))

  by-shift : (P : ℤ → Type 0) → ((z : ℤ) → 0 < at → at < 7 → nat_abs z ≤ 128 → P z) → P (pos 0) → P (shift x low at)
  by-shift P inner outer =
      cond_case (ltb 0 at && ltb at 7) (offset (D x (low + at - 1)) (D x (low + at)) (D x (low + at + 1))) (pos 0) P
      (λ t. let a = ltb-true 0 at (and_left (ltb 0 at) (ltb at 7) t) in
      let b = ltb-true at 7 (and_right (ltb 0 at) (ltb at 7) t) in
      inner _ a b (best_offset_within a b))
      (λ t. outer)

  -- nothing is lost by taking it as a natural number
  pub period-is : pos (period x low at) ≡ pos (256 * (low + at)) +ℤ shift x low at
  unfolding period
  period-is =
      by-shift (λ z. pos (nat_abs (pos (256 * (low + at)) +ℤ z)) ≡ pos (256 * (low + at)) +ℤ z)
      (λ z a b w. near (256 * (low + at)) z (omega arith))
      refl

pub period_range : PeriodRange
unfolding period
period_range x low lo hi =
    let at = best x low in
    by-shift x low (λ z. (4096 ≤ nat_abs (pos (256 * (low + at)) +ℤ z)) × (nat_abs (pos (256 * (low + at)) +ℤ z) ≤ 225280))
    (λ z a b w. let r = near_range (256 * (low + at)) 128 z w (omega arith) in (omega (arith, r.0), omega (arith, r.1)))
    (omega (arith, (best-first x low).inside))

-- ---- the move

by_move : (low at : ℕ) (P : ℕ → Type 0)
    → (at < 3 → (low ≡ 16 → ⊥) → P (low - 1)) → P low → (4 < at → (low + 7 ≡ 880 → ⊥) → P (low + 1)) → P (moved low at)
unfolding moved
by_move low at P down stay up =
    cond_case (ltb at 3) (cond (eqb low 16) low (low - 1)) (cond (ltb 4 at) (cond (eqb (low + 7) 880) low (low + 1)) low) P
    (λ a. cond_case (eqb low 16) low (low - 1) P (λ t. stay) (λ t. down (ltb-true at 3 a) (eqb-false low 16 t)))
    (λ a. cond_case (ltb 4 at) (cond (eqb (low + 7) 880) low (low + 1)) low P
    (λ b. cond_case (eqb (low + 7) 880) low (low + 1) P (λ t. stay) (λ t. up (ltb-true 4 at b) (eqb-false (low + 7) 880 t)))
    (λ b. stay))

module _ (low at : ℕ) where
  pub moved_range : 16 ≤ low → low ≤ 873 → (16 ≤ moved low at) × (moved low at ≤ 873)
  moved_range lo hi = by_move low at (λ m. (16 ≤ m) × (m ≤ 873)) (λ a b. omega arith) (lo, hi) (λ a b. omega arith)

  -- the best lag stays among the eight
  pub moved-best : at < 8 → (moved low at ≤ low + at) × (low + at ≤ moved low at + 7)
  moved-best h =
      by_move low at (λ m. (m ≤ low + at) × (low + at ≤ m + 7)) (λ a b. omega arith) (omega arith) (λ a b. omega arith)
