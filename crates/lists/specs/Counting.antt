-- How many of the first numbers are one number, and laws of it: all of them, or none.
use Rattle.std.specs.Prelude.{cond, List, ℕ, zero, suc, ◌+◌, eqb, get_or}

-- 1 where two numbers are equal, else 0
unfoldable pub one_if : ℕ → ℕ → ℕ
one_if a b = cond (eqb a b) 1 0

-- how many of the first n are this value
unfoldable pub counted : (value : ℕ) (values : List ℕ) (n : ℕ) → ℕ
counted v xs zero = 0
counted v xs (suc n) = counted v xs n + one_if (get_or xs n 0) v
