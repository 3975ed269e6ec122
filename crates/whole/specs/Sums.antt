-- Finite sums f 0 + .. + f (n - 1). Each law is stated once, over any addition that is associative and commutative with a zero;
-- the two that are used are `total`, of natural numbers, and `sum`, of signed ones.
use Rattle.std.specs.Prelude.{◌≡◌, ltb, ℤ, pos, ◌+ℤ◌, ◌-ℤ◌}
use Rattle.std.proofs.Math.Path.{refl, sym, ap}
use Rattle.std.proofs.Common.{◌∙◌, add_assoc, add_comm, zero-add, add-sub_of_le, mul-suc, ltb-true, ltb-false}
use Prim.Native.Nat.{ℕ, zero, suc, ◌+◌, ◌*◌, ◌-◌, ◌≤◌, ◌<◌}
use Rattle.std.proofs.Math.Nat.{add-zero, add-suc}
use native.Mathlib.Omega.{arith}
use Rattle.std.proofs.Math.Numerals.{add-one}
use Rattle.std.specs.Int.Signed.{mag}
use Rattle.std.proofs.Math.IntN.{+ℤ_assoc, +ℤ_comm, +ℤ_idl, +ℤ-neg_ℤ_cancel}
use Rattle.whole.specs.Tests.{by}
use Rattle.whole.specs.Bounds.{Within, nat_abs-add, mag-add}
use Rattle.whole.specs.Numbers.{fold, total, sum}

pub record Adds {A : Type 0} (z : A) (add : A → A → A) : Type 0 where
  pub assoc : (a b c : A) → add (add a b) c ≡ add a (add b c)
  pub comm : (a b : A) → add a b ≡ add b a
  pub unit : (a : A) → add z a ≡ a

pub adds : Adds 0 ◌+◌
adds = record { assoc = add_assoc; comm = add_comm; unit = zero-add }

pub addsℤ : Adds (pos 0) ◌+ℤ◌
addsℤ = record { assoc = +ℤ_assoc; comm = +ℤ_comm; unit = +ℤ_idl }

module _ {A : Type 0} {z : A} {add : A → A → A} (m : Adds z add) where
  pub fold-zero : (f : ℕ → A) → fold z add f 0 ≡ z
  unfolding fold
  fold-zero f = refl

  -- one more, as the code counts
  pub fold_step : (f : ℕ → A) (n : ℕ) → fold z add f (n + 1) ≡ add (fold z add f n) (f n)
  unfolding fold
  fold_step f n = rw add-one

  -- equal below n: equal sums of n
  pub fold-below : (f g : ℕ → A) (n : ℕ) → ((k : ℕ) → k < n → f k ≡ g k) → fold z add f n ≡ fold z add g n
  unfolding fold
  fold-below f g zero e = refl
  fold-below f g (suc n) e = λ i. add (fold-below f g n (λ k h. e k (omega arith)) i) (e n (omega arith) i)

  swap : (a b c : A) → add (add a b) c ≡ add (add a c) b
  swap a b c = m.assoc a b c ∙ ap (add a) (m.comm b c) ∙ sym (m.assoc a c b)

  unit-right : (a : A) → add a z ≡ a
  unit-right a = m.comm a z ∙ m.unit a

  -- g is f one later: a window of n moves on by one
  pub slide : (f g : ℕ → A) → ((k : ℕ) → g (suc k) ≡ f k) → (n : ℕ) → add (fold z add g n) (g n) ≡ add (fold z add f n) (g 0)
  unfolding fold
  slide f g e zero = refl
  slide f g e (suc n) =
      (λ i. add (slide f g e n i) (e n i)) ∙ swap (fold z add f n) (g 0) (f n)

  -- the first n, and the m after them
  pub fold-split : (f : ℕ → A) (n k : ℕ) → fold z add f (n + k) ≡ add (fold z add f n) (fold z add (λ (j : ℕ). f (n + j)) k)
  unfolding fold
  fold-split f n zero = rw add-zero (sym (unit-right (fold z add f n)))
  fold-split f n (suc k) =
      rw add-suc
      (ap (λ (a : A). add a (f (n + k))) (fold-split f n k) ∙ m.assoc (fold z add f n) (fold z add (λ (j : ℕ). f (n + j)) k) (f (n + k)))

  -- the same, taken from the other end
  pub fold-reverse : (f : ℕ → A) (n : ℕ) → fold z add f n ≡ fold z add (λ (k : ℕ). f (n - suc k)) n
  unfolding fold
  fold-reverse f zero = refl
  fold-reverse f (suc n) =
      let e : n ≡ suc n - 1 = omega arith in
      (λ i. add (fold-reverse f n i) (f (e i)))
      ∙ ap (λ (a : A). add a (f (suc n - 1))) (fold-below (λ (k : ℕ). f (n - suc k)) (λ (k : ℕ). f (suc n - suc (suc k))) n (λ k h. ap f (omega arith)))
      ∙ sym (slide (λ (k : ℕ). f (suc n - suc (suc k))) (λ (k : ℕ). f (suc n - suc k)) (λ k. refl) n)

  -- two sums at once
  pub fold-both : (f g : ℕ → A) (n : ℕ) → add (fold z add f n) (fold z add g n) ≡ fold z add (λ (k : ℕ). add (f k) (g k)) n
  unfolding fold
  fold-both f g zero = m.unit z
  fold-both f g (suc n) =
      sym (m.assoc (add (fold z add f n) (f n)) (fold z add g n) (g n))
      ∙ ap (λ (a : A). add a (g n)) (swap (fold z add f n) (f n) (fold z add g n))
      ∙ m.assoc (add (fold z add f n) (fold z add g n)) (f n) (g n)
      ∙ ap (λ (a : A). add a (add (f n) (g n))) (fold-both f g n)

-- ---- signed sums
pub sum-slide : (f g : ℕ → ℤ) → ((k : ℕ) → g (suc k) ≡ f k) → (n : ℕ) → sum g n ≡ sum f n +ℤ g 0 -ℤ g n
sum-slide f g e n = sym (+ℤ-neg_ℤ_cancel (sum g n) (g n)) ∙ ap (λ (a : ℤ). a -ℤ g n) (slide addsℤ f g e n)

pub sum-within : (B : ℕ) (f : ℕ → ℤ) → ((k : ℕ) → Within B (f k)) → (n : ℕ) → Within (B * n) (sum f n)
unfolding fold
sum-within B f p zero = record { within = omega arith }
sum-within B f p (suc n) =
    record { within = omega (arith, nat_abs-add (sum f n) (f n), (sum-within B f p n).within, (p n).within, mul-suc B n) }

pub sum-mag : (N : ℕ) (f : ℕ → ℤ) → ((k : ℕ) → mag (f k) < N) → (n : ℕ) → mag (sum f (suc n)) < N * suc n
unfolding fold
sum-mag N f p zero = rw (+ℤ_idl (f 0)) (omega (arith, p 0))
sum-mag N f p (suc n) = omega (arith, mag-add (sum f (suc n)) (f (suc n)) (sum-mag N f p n) (p (suc n)), mul-suc N (suc n))

-- a sum of natural numbers is the signed sum of them
pub pos_total : (f : ℕ → ℕ) (n : ℕ) → pos (total f n) ≡ sum (λ (k : ℕ). pos (f k)) n
unfolding fold
pos_total f zero = refl
pos_total f (suc n) = ap (λ (a : ℤ). a +ℤ pos (f n)) (pos_total f n)

-- ---- sums of natural numbers
pub total-within : (B : ℕ) (f : ℕ → ℕ) → ((k : ℕ) → f k ≤ B) → (n : ℕ) → total f n ≤ B * n
unfolding fold
total-within B f p zero = omega arith
total-within B f p (suc n) = omega (arith, total-within B f p n, p n, mul-suc B n)

-- a sum is 0 where every term is, and only there
pub total-zero : (f : ℕ → ℕ) (n : ℕ) → ((k : ℕ) → k < n → f k ≡ 0) → total f n ≡ 0
unfolding fold
total-zero f zero e = refl
total-zero f (suc n) e = let h = total-zero f n (λ k l. e k (omega arith)) in omega (arith, e n (omega arith))

pub total-term : (f : ℕ → ℕ) (n k : ℕ) → k < n → f k ≤ total f n
unfolding fold
total-term f zero k h = absurd (omega arith)
total-term f (suc n) k h =
    by (ltb k n)
    (λ t. omega (arith, total-term f n k (ltb-true k n t)))
    (λ t. let e : n ≡ k = omega (arith, ltb-false k n t) in let g : f n ≡ f k = ap f e in omega arith)

-- more terms, no less
pub total-grows : (f : ℕ → ℕ) {m n : ℕ} → m ≤ n → total f m ≤ total f n
total-grows f {m} {n} h = omega (arith, ap (total f) (add-sub_of_le h), fold-split adds f m (n - m))
