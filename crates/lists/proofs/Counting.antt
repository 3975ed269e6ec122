-- How many of the first numbers are one number, and laws of it: all of them, or none.
use Rattle.std.specs.Prelude.{◌≡◌, List, ℕ, zero, suc, ◌+◌, ◌≤◌, ◌<◌, eqb, length, get_or, take}
use mir.Val.{bool_byte}
use Rattle.std.proofs.Common.{refl, sym, ap, length-take-le, subst, ◌∙◌, add-one, arith, eqb-true, eq-eqb}
use Rattle.std.proofs.lemmas.Bool.{eqb-false}
use Rattle.std.proofs.lemmas.List.{get_or-take}
use Rattle.whole.specs.Tests.{by, cond_case, cond_yes, cond_no}
use Rattle.lists.specs.Folds.{Level}
use Rattle.lists.proofs.Folds.{level-one, level-more}
use Rattle.lists.specs.Counting.{counted, one_if}

pub one-within : (a b : ℕ) → one_if a b ≤ 1
unfolding one_if
one-within a b = cond_case (eqb a b) _ _ (λ (k : ℕ). k ≤ 1) (λ e. omega arith) (λ e. omega arith)

one_equal : (a b : ℕ) → 0 < one_if a b → a ≡ b
unfolding one_if
one_equal a b h = by (eqb a b) (λ e. eqb-true a b e) (λ e. let z : one_if a b ≡ 0 = cond_no _ _ e in absurd (omega arith))

one_same : (a b : ℕ) → a ≡ b → one_if a b ≡ 1
unfolding one_if
one_same a b e = cond_yes _ _ (eq-eqb a b e)

pub counted-within : (v : ℕ) (xs : List ℕ) (n : ℕ) → counted v xs n ≤ n
unfolding counted
counted-within v xs zero = omega arith
counted-within v xs (suc n) = omega (arith, counted-within v xs n, one-within (get_or xs n 0) v)

-- one more
pub counted-more : (v : ℕ) (xs : List ℕ) (n : ℕ) → counted v xs (n + 1) ≡ counted v xs n + one_if (get_or xs n 0) v
unfolding counted
counted-more v xs n = ap (counted v xs) (add-one n)

-- none of them
pub none-counted : (v : ℕ) (xs : List ℕ) (n : ℕ) → counted v xs n ≡ 0 → (i : ℕ) → i < n → get_or xs i 0 ≡ v → ⊥
unfolding counted
none-counted v xs zero e i h f = omega arith
none-counted v xs (suc n) e i h f =
    by (eqb i n)
    (λ q. omega (arith, e, one_same (get_or xs n 0) v (ap (λ (j : ℕ). get_or xs j 0) (sym (eqb-true i n q)) ∙ f)))
    (λ q. none-counted v xs n (omega arith) i (omega (arith, eqb-false i n q)) f)

-- all of them: one stretch
pub all-counted : (xs : List ℕ) (m n : ℕ) → m ≤ length xs → 0 < n → n ≤ m → counted (get_or xs 0 0) xs n ≡ n → Level xs m 0 n
unfolding counted
all-counted xs m zero h z l e = absurd (omega arith)
all-counted xs m (suc zero) h z l e = level-one xs m 0 h (omega arith)
all-counted xs m (suc (suc n)) h z l e =
    let note = get_or xs 0 0 in
    let a = counted-within note xs (suc n) in
    let b = one-within (get_or xs (suc n) 0) note in
    subst (Level xs m 0) (add-one (suc n))
    (level-more xs m 0 h (suc n) (all-counted xs m (suc n) h (omega arith) (omega arith) (omega (arith, a, b, e))) (omega arith) (one_equal (get_or xs (suc n) 0) note (omega (arith, a, b, e))))

-- a test as a number
pub one_if_is : (a b : ℕ) → bool_byte (eqb a b) ≡ one_if a b
unfolding one_if
one_if_is a b = by (eqb a b) (λ e. rw e refl) (λ e. rw e refl)

-- only the first numbers count
counted-of-front : (v : ℕ) (xs : List ℕ) (m n : ℕ) → n ≤ m → counted v (take m xs) n ≡ counted v xs n
unfolding counted
counted-of-front v xs m zero h = refl
counted-of-front v xs m (suc n) h = λ i. counted-of-front v xs m n (omega arith) i + one_if (get_or-take m xs n 0 (omega arith) i) v

pub counted-front : (v : ℕ) (xs : List ℕ) (n : ℕ) → n ≤ length xs → counted v (take n xs) (length (take n xs)) ≡ counted v xs n
counted-front v xs n h = let e : length (take n xs) ≡ n = length-take-le n xs h in rw e (counted-of-front v xs n n (omega arith))
