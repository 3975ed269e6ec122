-- A loop that adds f 0, f 1, .. into a signed local: what its invariant says, and that a turn keeps it.
use Rattle.std.specs.Prelude.{◌≡◌, ℕ, ◌+◌, ◌*◌, ◌^◌, ◌≤◌, ◌<◌, T, ltb, ℤ, pos, nat_abs, ◌+ℤ◌}
use Rattle.std.proofs.Common.{sym, ◌∙◌, mul-suc, mul-le-mul_left, le_trans, arith, add-one}
use Rattle.std.specs.Int.{Width}
use mir.Val.{SFits, hbits, to_z, of_z}
use Rattle.whole.specs.Bounds.{nat_abs-add}
use Rattle.whole.specs.Words.{Bits, ok_of, kept_of_lem, fit}
use Rattle.whole.specs.Sums.{addsℤ, fold-zero, fold_step}
use Rattle.whole.specs.Numbers.{sum}

-- the number z is f 0 + .. + f (i - 1), whose size is at most B times i
pub record Summed (B : ℕ) (f : ℕ → ℤ) (i : ℕ) (z : ℤ) : Type 0 where
  pub reads : z ≡ sum f i
  pub size : nat_abs (sum f i) ≤ B * i

pub summed-start : (B : ℕ) (f : ℕ → ℤ) → Summed B f 0 (pos 0)
summed-start B f = record { reads = sym (fold-zero addsℤ f); size = rw (fold-zero addsℤ) (omega arith) }

module _ {w : Width} {B n : ℕ} (N : ℕ) {f : ℕ → ℤ} {i : ℕ} {z : ℤ} (r : Summed B f i z) (x : Bits w B n (f i)) (h : i < N) (t : T (ltb (B * N) (2 ^ hbits w))) where
  grown : nat_abs (sum f i +ℤ f i) ≤ B * (i + 1)
  grown = omega (arith, nat_abs-add (sum f i) (f i), r.size, x.size.within, distrib B i)
    where
      distrib : (B i : ℕ) → B * (i + 1) ≡ B * i + B
      distrib B i = rw (add-one, mul-suc)

  sum_fits : SFits w (sum f i +ℤ f i)
  sum_fits = fit (record { within = le_trans grown (mul-le-mul_left B (omega arith)) }) t

  pub summed_ok : SFits w (z +ℤ to_z w n)
  summed_ok = ok_of (λ j. r.reads j +ℤ x.reads j) sum_fits

  pub summed : Summed B f (i + 1) (to_z w (of_z w (z +ℤ to_z w n)))
  summed =
      record {
        reads = (kept_of_lem {n = B * (i + 1)} (λ j. r.reads j +ℤ x.reads j) sum_fits (record { within = grown })).reads ∙ sym (fold_step addsℤ f i);
        size = rw (fold_step addsℤ) grown;
      }

-- the same of the bits b of a local: they read as f 0 + .. + f (i - 1), whose size is at most B times i
pub record Added (w : Width) (B : ℕ) (f : ℕ → ℤ) (i b : ℕ) : Type 0 where
  pub reads : to_z w b ≡ sum f i
  pub size : nat_abs (sum f i) ≤ B * i

pub run-start : (w : Width) (B : ℕ) (f : ℕ → ℤ) → to_z w 0 ≡ pos 0 → Added w B f 0 0
run-start w B f e = let s = summed-start B f in record { reads = e ∙ s.reads; size = s.size }

module _ {w : Width} {B n : ℕ} (N : ℕ) {f : ℕ → ℤ} {i b : ℕ} (r : Added w B f i b) (x : Bits w B n (f i)) (h : i < N) (t : T (ltb (B * N) (2 ^ hbits w))) where
  so_far : Summed B f i (to_z w b)
  so_far = record { reads = r.reads; size = r.size }

  pub run_ok : SFits w (to_z w b +ℤ to_z w n)
  run_ok = summed_ok N so_far x h t

  pub run : Added w B f (i + 1) (of_z w (to_z w b +ℤ to_z w n))
  run = let s = summed N so_far x h t in record { reads = s.reads; size = s.size }
