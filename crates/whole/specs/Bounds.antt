-- The size of signed numbers as a bound that computes, and how far two natural numbers lie apart.
use Rattle.std.specs.Prelude.{◌≡◌, refl, ℕ, zero, suc, ◌+◌, ◌*◌, ◌-◌, ◌≤◌, ◌<◌, ltb, ℤ, pos, negsuc, neg_ℤ, nat_abs, ◌+ℤ◌, ◌-ℤ◌, ◌*ℤ◌}
use Rattle.std.proofs.Common.{sym, ap, ◌∙◌, le_refl, mul-le-mul, arith, ltb-true, ltb-false}
use Rattle.std.proofs.Math.IntN.{sub_ℕ}
use Rattle.std.specs.Int.Signed.{mag}
use Rattle.whole.specs.Tests.{cond_case}

-- |z| is at most n
pub record Within (n : ℕ) (z : ℤ) : Type 0 where
  pub within : nat_abs z ≤ n

-- ---- a difference of natural numbers, by which is the larger
pub subℕ-ge : (a b : ℕ) → b ≤ a → sub_ℕ a b ≡ pos (a - b)
subℕ-ge a b h =
    cond_case (ltb a b) (negsuc (b - suc a)) (pos (a - b)) (λ z. z ≡ pos (a - b))
    (λ t. absurd (omega (arith, ltb-true a b t)))
    (λ t. refl)

pub subℕ-lt : (a b : ℕ) → a < b → sub_ℕ a b ≡ negsuc (b - suc a)
subℕ-lt a b h =
    cond_case (ltb a b) (negsuc (b - suc a)) (pos (a - b)) (λ z. z ≡ negsuc (b - suc a))
    (λ t. refl)
    (λ t. absurd (omega (arith, ltb-false a b t)))

pub pos_minus_pos : (u v : ℕ) → pos u -ℤ pos v ≡ sub_ℕ u v
pos_minus_pos u zero = let e : u - 0 ≡ u + 0 = omega arith in sym (subℕ-ge u 0 (omega arith) ∙ ap pos e)
pos_minus_pos u (suc v) = refl

pub minus-down : (a b : ℕ) → b ≤ a → pos a -ℤ pos b ≡ pos (a - b)
minus-down a b h = pos_minus_pos a b ∙ subℕ-ge a b h

pub natAbs-subℕ : (a b : ℕ) → nat_abs (sub_ℕ a b) ≡ (a - b) + (b - a)
natAbs-subℕ a b =
    cond_case (ltb a b) (negsuc (b - suc a)) (pos (a - b)) (λ z. nat_abs z ≡ (a - b) + (b - a))
    (λ t. let h = ltb-true a b t in omega arith)
    (λ t. let h = ltb-false a b t in omega arith)

-- ---- sizes of sums and products
pub nat_abs-neg : (a : ℤ) → nat_abs (neg_ℤ a) ≡ nat_abs a
nat_abs-neg (pos zero) = refl
nat_abs-neg (pos (suc n)) = refl
nat_abs-neg (negsuc n) = refl

pub nat_abs-add : (a b : ℤ) → nat_abs (a +ℤ b) ≤ nat_abs a + nat_abs b
nat_abs-add (pos a) (pos b) = le_refl (a + b)
nat_abs-add (pos a) (negsuc b) = omega (arith, natAbs-subℕ a (suc b))
nat_abs-add (negsuc a) (pos b) = omega (arith, natAbs-subℕ b (suc a))
nat_abs-add (negsuc a) (negsuc b) = omega arith

pub nat_abs_mul : (a b : ℤ) → nat_abs (a *ℤ b) ≡ nat_abs a * nat_abs b
nat_abs_mul (pos a) (pos b) = refl
nat_abs_mul (pos a) (negsuc b) = nat_abs-neg (pos (a * suc b))
nat_abs_mul (negsuc a) (pos b) = nat_abs-neg (pos (suc a * b))
nat_abs_mul (negsuc a) (negsuc b) = refl

pub nat_abs-zero : (z : ℤ) → nat_abs z ≡ 0 → z ≡ pos 0
nat_abs-zero (pos n) e = ap pos e
nat_abs-zero (negsuc n) e = absurd (omega arith)

pub square_zero : (z : ℤ) → nat_abs (z *ℤ z) ≡ 0 → z ≡ pos 0
square_zero (pos zero) e = refl
square_zero (pos (suc n)) e = absurd (omega arith)
square_zero (negsuc n) e = absurd (omega arith)

module _ {A B : ℕ} {a b : ℤ} (p : Within A a) (q : Within B b) where
  pub w_add : Within (A + B) (a +ℤ b)
  w_add = record { within = omega (arith, nat_abs-add a b, p.within, q.within) }

  pub w_sub : Within (A + B) (a -ℤ b)
  w_sub = record { within = omega (arith, nat_abs-add a (neg_ℤ b), nat_abs-neg b, p.within, q.within) }

  pub w_mul : Within (A * B) (a *ℤ b)
  w_mul = record { within = rw (nat_abs_mul a b) (mul-le-mul p.within q.within) }

-- ---- numbers from -N to N - 1, as a signed width holds them: mag is below N
pub mag-add : {A B : ℕ} (a b : ℤ) → mag a < A → mag b < B → mag (a +ℤ b) < A + B
mag-add (pos a) (pos b) h k = omega arith
mag-add {A} {B} (pos a) (negsuc b) h k =
    cond_case (ltb a (suc b)) (negsuc (suc b - suc a)) (pos (a - suc b)) (λ z. mag z < A + B) (λ t. omega arith) (λ t. omega arith)
mag-add {A} {B} (negsuc a) (pos b) h k =
    cond_case (ltb b (suc a)) (negsuc (suc a - suc b)) (pos (b - suc a)) (λ z. mag z < A + B) (λ t. omega arith) (λ t. omega arith)
mag-add (negsuc a) (negsuc b) h k = omega arith

-- ---- a number near a natural number n is natural: n + z with |z| at most n
pub near : (n : ℕ) (z : ℤ) → nat_abs z ≤ n → pos (nat_abs (pos n +ℤ z)) ≡ pos n +ℤ z
near n (pos a) h = refl
near n (negsuc a) h = ap (λ (v : ℤ). pos (nat_abs v)) (subℕ-ge n (suc a) h) ∙ sym (subℕ-ge n (suc a) h)

pub near_range : (n b : ℕ) (z : ℤ) → nat_abs z ≤ b → b ≤ n → (n - b ≤ nat_abs (pos n +ℤ z)) × (nat_abs (pos n +ℤ z) ≤ n + b)
near_range n b (pos a) h k = (omega arith, omega arith)
near_range n b (negsuc a) h k = rw (subℕ-ge n (suc a) (omega arith)) (omega arith, omega arith)

-- ---- what is not negative
pub square_pos : (a : ℤ) → pos (nat_abs (a *ℤ a)) ≡ a *ℤ a
square_pos (pos n) = refl
square_pos (negsuc n) = refl
