-- What the bits of a signed local read as, and that a step's number fits its width: each bound is closed by `tt`.
use Rattle.std.specs.Prelude.{◌≡◌, refl, Bool, true, false, not, ℕ, suc, ◌+◌, ◌*◌, ◌/◌, ◌^◌, ◌≤◌, T, ltb, ℤ, pos, negsuc, nat_abs, ◌+ℤ◌, ◌-ℤ◌, ◌*ℤ◌, ◌<ℤ◌, ◌≤ℤ◌}
use Rattle.std.proofs.Common.{sym, ap, ◌∙◌, subst, le_refl, le_trans, lt_of_le_of_lt, div-le_self, arith, ltb→lt, to_z-of_z}
use Rattle.std.specs.Int.Signed.{mag, nat_abs-le, shr_z, mag_shr, quot_z, lt_z, lt_z_no}
use Rattle.std.specs.Int.{Width}
use mir.Val.{SFits, hbits, to_z, of_z}
use Rattle.whole.specs.Bounds.{Within, nat_abs-neg, w_add, w_sub, w_mul}

mag_le : (z : ℤ) → mag z ≤ nat_abs z
mag_le (pos n) = le_refl n
mag_le (negsuc n) = omega arith

-- a number of a signed type; and a number that is small enough for one: `fit p tt`
pub held : {w : Width} {z : ℤ} → SFits w z → Within (2 ^ hbits w) z
held {w} {z} f = record { within = nat_abs-le z f.sfits }

pub fit : {w : Width} {n : ℕ} {z : ℤ} → Within n z → T (ltb n (2 ^ hbits w)) → SFits w z
fit {w} {n} {z} p t = record { sfits = lt_of_le_of_lt (le_trans (mag_le z) p.within) (ltb→lt n (2 ^ hbits w) t) }

-- What a signed local holds: the bits b, which read as the number z, whose size is at most n.
pub record Bits (w : Width) (n b : ℕ) (z : ℤ) : Type 0 where
  pub reads : to_z w b ≡ z
  pub size : Within n z

-- A step asks that a number e fits, and holds its bits from then on: e is z, which fits.
pub ok_of : {w : Width} {e z : ℤ} → e ≡ z → SFits w z → SFits w e
ok_of {w} same f = subst (λ (v : ℤ). SFits w v) (sym same) f

pub kept_of_lem : {w : Width} {n : ℕ} {e z : ℤ} → e ≡ z → SFits w z → Within n z → Bits w n (of_z w e) z
kept_of_lem same f size = record { reads = to_z-of_z (ok_of same f) ∙ same; size = size }

-- the same, by a bound that computes
module _ {w : Width} {n : ℕ} {e z : ℤ} (same : e ≡ z) (size : Within n z) (t : T (ltb n (2 ^ hbits w))) where
  ok : SFits w e
  ok = ok_of same (fit size t)

  kept : Bits w n (of_z w e) z
  kept = kept_of_lem same (fit size t) size

-- a parameter or an element; the same, with a bound of its own; a number that is below a bound
pub arg : {w : Width} {z : ℤ} → SFits w z → Bits w (2 ^ hbits w) (of_z w z) z
arg f = record { reads = to_z-of_z f; size = held f }

pub arg≤ : {w : Width} {n : ℕ} {z : ℤ} → nat_abs z ≤ n → SFits w z → Bits w n (of_z w z) z
arg≤ p f = record { reads = to_z-of_z f; size = record { within = p } }

pub num : {w : Width} {n : ℕ} {z : ℤ} → nat_abs z ≤ n → T (ltb n (2 ^ hbits w)) → Bits w n (of_z w z) z
num {w} {n} {z} p t = kept refl (record { within = p }) t

-- a variable of a loop, of which the invariant says what it reads as
pub loop : (w : Width) (b : ℕ) {z : ℤ} (n : ℕ) → to_z w b ≡ z → nat_abs z ≤ n → Bits w n b z
loop w b n e p = record { reads = e; size = record { within = p } }

-- a literal's bits
pub lit : (w : Width) (b : ℕ) → Bits w (nat_abs (to_z w b)) b (to_z w b)
lit w b = record { reads = refl; size = record { within = le_refl _ } }

module _ {w w' : Width} {A m : ℕ} {a : ℤ} (p : Bits w A m a) (t : T (ltb A (2 ^ hbits w'))) where
  pub cast_ok : SFits w' (to_z w m)
  cast_ok = ok p.reads p.size t

  pub cast : Bits w' A (of_z w' (to_z w m)) a
  cast = kept p.reads p.size t

nat_abs_quot : (a b : ℤ) → nat_abs (quot_z a b) ≤ nat_abs a
nat_abs_quot (pos a) (pos b) = div-le_self a b
nat_abs_quot (pos a) (negsuc b) = rw (nat_abs-neg (pos (a / suc b))) (div-le_self a (suc b))
nat_abs_quot (negsuc a) (pos b) = rw (nat_abs-neg (pos (suc a / b))) (div-le_self (suc a) b)
nat_abs_quot (negsuc a) (negsuc b) = div-le_self (suc a) (suc b)

module _ {w : Width} {A B m n : ℕ} {a b : ℤ} (p : Bits w A m a) (q : Bits w B n b) where
  pub add_ok : T (ltb (A + B) (2 ^ hbits w)) → SFits w (to_z w m +ℤ to_z w n)
  add_ok t = ok (λ i. p.reads i +ℤ q.reads i) (w_add p.size q.size) t

  pub add : T (ltb (A + B) (2 ^ hbits w)) → Bits w (A + B) (of_z w (to_z w m +ℤ to_z w n)) (a +ℤ b)
  add t = kept (λ i. p.reads i +ℤ q.reads i) (w_add p.size q.size) t

  pub sub-ok : T (ltb (A + B) (2 ^ hbits w)) → SFits w (to_z w m -ℤ to_z w n)
  sub-ok t = ok (λ i. p.reads i -ℤ q.reads i) (w_sub p.size q.size) t

  pub sub : T (ltb (A + B) (2 ^ hbits w)) → Bits w (A + B) (of_z w (to_z w m -ℤ to_z w n)) (a -ℤ b)
  sub t = kept (λ i. p.reads i -ℤ q.reads i) (w_sub p.size q.size) t

  pub mul_ok : T (ltb (A * B) (2 ^ hbits w)) → SFits w (to_z w m *ℤ to_z w n)
  mul_ok t = ok (λ i. p.reads i *ℤ q.reads i) (w_mul p.size q.size) t

  pub mul : T (ltb (A * B) (2 ^ hbits w)) → Bits w (A * B) (of_z w (to_z w m *ℤ to_z w n)) (a *ℤ b)
  mul t = kept (λ i. p.reads i *ℤ q.reads i) (w_mul p.size q.size) t

  -- a quotient, rounded toward zero
  pub div : T (ltb A (2 ^ hbits w)) → Bits w A (of_z w (quot_z (to_z w m) (to_z w n))) (quot_z a b)
  div t = kept (λ i. quot_z (p.reads i) (q.reads i)) (record { within = le_trans (nat_abs_quot a b) p.size.within }) t

  -- a test `x < y` that held, and one that failed
  pub lt_yes : lt_z (to_z w m) (to_z w n) ≡ true → a <ℤ b
  lt_yes e = record { lt = subst T (sym e ∙ (λ i. lt_z (p.reads i) (q.reads i))) tt }

  pub lt_no : lt_z (to_z w m) (to_z w n) ≡ false → b ≤ℤ a
  lt_no e = lt_z_no (subst (λ (t : Bool). T (not t)) (sym e ∙ (λ i. lt_z (p.reads i) (q.reads i))) tt)

-- a shift to the right by a literal, which rounds down; it asks nothing
nat_abs-shr : (z : ℤ) (m : ℕ) → nat_abs (shr_z z m) ≤ nat_abs z
nat_abs-shr (pos a) m = div-le_self a m
nat_abs-shr (negsuc a) m = omega (arith, div-le_self a m)

pub shr : {w : Width} {A m : ℕ} {a : ℤ} (k : ℕ) → Bits w A m a → SFits w a → Bits w A (of_z w (shr_z (to_z w m) k)) (shr_z a k)
shr {w} {A} {m} {a} k p f =
    record {
      reads = to_z-of_z (subst (λ (v : ℤ). SFits w (shr_z v k)) (sym p.reads) (record { sfits = lt_of_le_of_lt (mag_shr a k) f.sfits })) ∙ ap (λ (v : ℤ). shr_z v k) p.reads;
      size = record { within = le_trans (nat_abs-shr a k) p.size.within };
    }

-- the same number, by another name: what a callee ensures of its result
pub is : {w : Width} {n b : ℕ} {z z' : ℤ} → z ≡ z' → Bits w n b z → Bits w n b z'
is {w} {n} {b} e p = subst (λ (v : ℤ). Bits w n b v) e p
