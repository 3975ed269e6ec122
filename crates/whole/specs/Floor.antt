-- Division rounded down, toward minus infinity, by a natural number above 0; the nearest whole number, halves up; what they are.
use Rattle.std.specs.Prelude.{◌≡◌, refl, [], ◌∷◌, ℕ, zero, suc, ◌+◌, ◌*◌, ◌-◌, ◌/◌, ◌%◌, ◌<◌, ℤ, pos, negsuc, neg_ℤ, nat_abs, ◌+ℤ◌, ◌-ℤ◌, ◌*ℤ◌, ◌<ℤ◌, ◌≤ℤ◌}
use Rattle.std.proofs.Common.{sym, ap, ◌∙◌, div-add-mod', mod-lt, suc-mul, div-lt_iff_lt-mul, arith, ltb→lt}
use Rattle.std.proofs.Math.IntN.{sub_ℕ}
use Rattle.std.specs.Int.Signed.{mag, quot_z}
use Rattle.whole.specs.Bounds.{subℕ-ge, subℕ-lt, pos_minus_pos, natAbs-subℕ, nat_abs_mul, nat_abs-zero}
use Rattle.whole.specs.Ring.{var, con, ◌⊕◌, ◌⊖◌, ◌⊗◌, solve}
use Rattle.whole.specs.Numbers.{floor_div, Floor}

neg-mul : (q m : ℕ) → 0 < m → negsuc q *ℤ pos m ≡ negsuc (q * m + (m - 1))
neg-mul q zero h = absurd (omega arith)
neg-mul q (suc m) h =
    let e : suc q * suc m ≡ suc (q * suc m + (suc m - 1)) = omega (arith, suc-mul q (suc m)) in ap (λ (n : ℕ). neg_ℤ (pos n)) e

pub floor-is : (z : ℤ) (m : ℕ) → 0 < m → Floor z m (floor_div z m)
floor-is (pos a) m h = record { rest = a % m; small = mod-lt a h; whole = ap pos (sym (div-add-mod' a m)) }
floor-is (negsuc a) m h =
    record {
      rest = m - 1 - a % m;
      small = omega arith;
      whole =
          sym (ap (λ (v : ℤ). v +ℤ pos (m - 1 - a % m)) (neg-mul (a / m) m h)
          ∙ subℕ-lt (m - 1 - a % m) (suc (a / m * m + (m - 1))) (omega arith)
          ∙ ap negsuc (omega (arith, div-add-mod' a m, mod-lt a h)));
    }

-- two natural numbers below m lie less than m apart; and m times a whole number is less than m only at 0
none_between : (q m : ℕ) → q * m < m → q ≡ 0
none_between zero m h = refl
none_between (suc q) m h = absurd (omega (arith, suc-mul q m))

-- no second number is z by m rounded down
pub floor-one : {z : ℤ} {m : ℕ} {p q : ℤ} → Floor z m p → Floor z m q → p ≡ q
floor-one {z} {m} {p} {q} a b =
    let r = a.rest in
    let s = b.rest in
    let e : (p -ℤ q) *ℤ pos m ≡ sub_ℕ s r =
    solve (p ∷ q ∷ pos m ∷ pos r ∷ []) ((var 0 ⊖ var 1) ⊗ var 2) (var 0 ⊗ var 2 ⊕ var 3 ⊖ (var 1 ⊗ var 2 ⊕ var 3)) refl
    ∙ ap (λ (v : ℤ). v -ℤ (q *ℤ pos m +ℤ pos r)) (sym a.whole ∙ b.whole)
    ∙ solve (q ∷ pos m ∷ pos s ∷ pos r ∷ []) (var 0 ⊗ var 1 ⊕ var 2 ⊖ (var 0 ⊗ var 1 ⊕ var 3)) (var 2 ⊖ var 3) refl
    ∙ pos_minus_pos s r
    in
    let n : nat_abs (p -ℤ q) * m ≡ (s - r) + (r - s) = sym (nat_abs_mul (p -ℤ q) (pos m)) ∙ ap nat_abs e ∙ natAbs-subℕ s r in
    let d : p -ℤ q ≡ pos 0 = nat_abs-zero (p -ℤ q) (none_between (nat_abs (p -ℤ q)) m (omega (arith, a.small, b.small))) in
    solve (p ∷ q ∷ []) (var 0) (var 1 ⊕ (var 0 ⊖ var 1)) refl
    ∙ ap (λ (v : ℤ). q +ℤ v) d
    ∙ solve (q ∷ []) (var 0 ⊕ con (pos 0)) (var 0) refl

-- from -N m to N m - 1, by m: from -N to N - 1
pub floor-mag : (z : ℤ) (N m : ℕ) → 0 < m → mag z < N * m → mag (floor_div z m) < N
floor-mag (pos a) N m p h = (div-lt_iff_lt-mul p).1 h
floor-mag (negsuc a) N m p h = (div-lt_iff_lt-mul p).1 h

-- ---- the steps of  if a < 0 { -1 - (-1 - a) / d } else { a / d }
pub flip : (a : ℤ) → a <ℤ pos 0 → negsuc 0 -ℤ a ≡ pos (mag a)
flip (pos n) h = absurd (omega (arith, ltb→lt n 0 h.lt))
flip (negsuc k) h = subℕ-ge (suc k) 1 (omega arith) ∙ ap pos (omega arith)

pub flip-back : (q : ℕ) → negsuc 0 -ℤ pos q ≡ negsuc q
flip-back zero = subℕ-lt 0 1 (omega arith)
flip-back (suc q) = ap (λ (n : ℕ). negsuc (suc n)) (omega arith)

pub floor-neg : (a : ℤ) (d : ℕ) → a <ℤ pos 0 → floor_div a d ≡ negsuc (mag a / d)
floor-neg (pos n) d h = absurd (omega (arith, ltb→lt n 0 h.lt))
floor-neg (negsuc k) d h = refl

pub floor_pos : (a : ℤ) (d : ℕ) → pos 0 ≤ℤ a → quot_z a (pos d) ≡ floor_div a d
floor_pos (pos n) d h = refl
floor_pos (negsuc k) d h = absurd h.le
