-- How to read the definitions. What a reader must believe stands in files of definitions only; README lists them in reading order, and this is the first.
--
-- A definition has its type on its first line and its equations below it. `unfoldable`, `abbrev` and `pub` say how proofs may open it, and nothing of what it says.
-- ℕ are the natural numbers from 0 on, ℤ the signed whole numbers. pos n is the natural number n as a signed one, negsuc n is -(n + 1), nat_abs z is z without its sign.
-- On ℕ: a - b stops at 0 (3 - 5 is 0); a / b and a % b are quotient and remainder, rounded down; suc n is n + 1.
-- On ℤ the signs carry a ℤ: a +ℤ b, a -ℤ b, a *ℤ b.
-- Tests are true or false: leb a b is a <= b, ltb a b is a < b, eqb a b and a == b are a = b, lt_z a b is a < b on ℤ; && is and. cond t x y is x where the test t holds, else y.
-- A list is [] or x ∷ rest, with x its first element; ++ puts two lists one after the other; take n and drop n are its first n elements and all but these;
-- get_or l i d is its element i, counted from 0, and d past the end; replicate n x is n times x. An Option is none, or some x.
-- λ (k : ℕ). e is the function that takes k to e; let x = e in y is y with e for x.
-- r.field is a field of the record r. A record or data type that ends in `Type 0` is a statement: a record holds where each of its fields does, data where one of its cases does.
-- a ≡ b says that they are equal, a ≢ b that they are not; × is and, ⊎ is or, P → ⊥ is not P; (k : ℕ) → P says that P holds for every k.
-- A sound is a function of age: x k is the sample of k samples ago, x 0 the newest.
use Rattle.std.specs.Prelude.{◌≡◌, List, [], ◌∷◌, ℕ, zero, suc, ◌+◌, ◌*◌, ◌<◌, ℤ, pos, ◌+ℤ◌, ◌*ℤ◌}
use Rattle.std.specs.Int.Signed.{shr_z}

-- z by m, rounded down toward minus infinity: pos a by m is pos (a / m), and negsuc a by m is negsuc (a / m)
abbrev pub floor_div : ℤ → ℕ → ℤ
floor_div z m = shr_z z m

-- z by m to the nearest whole number, halves up: rounded down after a half is added
abbrev pub nearest_div : ℤ → ℕ → ℤ
nearest_div z m = floor_div (pos 2 *ℤ z +ℤ pos m) (2 * m)

-- q is z by m rounded down: z is q times m and a rest from 0 to m - 1
pub record Floor (z : ℤ) (m : ℕ) (q : ℤ) : Type 0 where
  pub rest : ℕ
  pub small : rest < m
  pub whole : z ≡ q *ℤ pos m +ℤ pos rest

-- z, and f 0 to f (n - 1) added to it one after the other
unfoldable pub fold : {A : Type 0} → A → (A → A → A) → (ℕ → A) → ℕ → A
fold z add f zero = z
fold z add f (suc n) = add (fold z add f n) (f n)

-- the sum of the natural numbers f 0 to f (n - 1)
abbrev pub total : (ℕ → ℕ) → ℕ → ℕ
total f n = fold 0 ◌+◌ f n

-- the sum of the signed numbers f 0 to f (n - 1)
abbrev pub sum : (ℕ → ℤ) → ℕ → ℤ
sum f n = fold (pos 0) ◌+ℤ◌ f n

-- f 0, .., f (n - 1)
unfoldable pub list_of : {A : Type 0} → (ℕ → A) → ℕ → List A
list_of f zero = []
list_of f (suc n) = f 0 ∷ list_of (λ (k : ℕ). f (suc k)) n
