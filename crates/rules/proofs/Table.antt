-- The rule of a table: entry p of note n at hertz samples a second is the whole number nearest to hertz x 256 / (440 x 2^((n-69)/12)).
-- It is said over whole numbers, by comparing twelfth powers of 2p-1 and 2p+1 with 2^69 multiplied in, and computed once over each table.
use Rattle.std.specs.Prelude.{◌≡◌, Bool, true, ℕ, ◌+◌, ◌-◌, ◌*◌, ◌^◌, ◌≤◌, ◌<◌, ltb, length}
use Rattle.std.proofs.Math.Path.{refl}
use Rattle.std.proofs.Common.{sym, subst, add-sub_of_le, lt_irrefl, lt_of_le_of_lt, lt_of_lt_of_le, le_of_lt, mul-le-mul_right, arith, ltb-true, eq-eqb, ne_eqb}
use Rattle.std.proofs.Math.Nat.{pow-le-pow_left}
use Rattle.whole.specs.Tests.{and_left, and_right}
use Rattle.rules.proofs.Every.{at_each_place}
use Rattle.rules.specs.Rules.{cd_rate, film_rate, cd_table, film_table, table, first_note, notes, note_period}
use Rattle.rules.specs.Facts.{SampleRate, cd, film, OfTable}
use Rattle.rules.specs.Tuning.{times, second, Nearest, TableRule, NearestOne}
use Rattle.rules.specs.Table.{EachPasses, Span, is_nearest}

-- ---- what holds at both sample rates holds at any
at_any : (P : ℕ → Type 0) → P cd_rate × P film_rate → {hertz : ℕ} → SampleRate hertz → P hertz
at_any P both (cd e) = subst P (sym e) both.0
at_any P both (film e) = subst P (sym e) both.1

-- what stands for a sample rate, by whether it is 44,100
module _ (hertz : ℕ) where
  pub at-cd : hertz ≡ cd_rate → (table hertz ≡ cd_table) × (first_note hertz ≡ 32) × (notes hertz ≡ 69)
  unfolding table first_note notes
  at-cd e = rw (eq-eqb hertz cd_rate e) (refl, refl, refl)

  pub at-film : (hertz ≡ cd_rate → ⊥) → (table hertz ≡ film_table) × (first_note hertz ≡ 33) × (notes hertz ≡ 70)
  unfolding table first_note notes
  at-film n = rw (ne_eqb hertz cd_rate n) (refl, refl, refl)

-- no sample rate is greater than film's
pub rate-upto : {hertz : ℕ} → SampleRate hertz → hertz ≤ film_rate
rate-upto = at_any (λ (hertz : ℕ). hertz ≤ film_rate) (omega arith, omega arith)

pub table-span : {hertz : ℕ} → SampleRate hertz → Span hertz
unfolding first_note notes
table-span = at_any Span (record { first = omega arith; end = omega arith }, record { first = omega arith; end = omega arith })

pub table-length : {hertz : ℕ} → SampleRate hertz → length (table hertz) ≡ notes hertz
unfolding table notes cd_table film_table
table-length = at_any (λ (hertz : ℕ). length (table hertz) ≡ notes hertz) (refl, refl)

-- a test that holds at every entry of both tables holds at each note of any sample rate
pub at_each_note : (test : ℕ → ℕ → ℕ → Bool) → EachPasses test cd_rate × EachPasses test film_rate →
    {hertz n : ℕ} → SampleRate hertz → OfTable hertz n → test hertz n (note_period hertz n) ≡ true
unfolding note_period
at_each_note test both {hertz} {n} rate t =
    subst (λ (m : ℕ). test hertz m (note_period hertz n) ≡ true) (add-sub_of_le t.from)
    (at_each_place (test hertz) (table hertz) 0 (first_note hertz) (at_any (EachPasses test) both rate) (n - first_note hertz) (omega (arith, t.from, t.upto, table-length rate)))

all_nearest : EachPasses is_nearest cd_rate × EachPasses is_nearest film_rate
unfolding table first_note cd_table film_table
all_nearest = (refl, refl)

pub table_nearest : TableRule
table_nearest hertz n rate t =
    let both = at_each_note is_nearest all_nearest rate t in
    record { below = ltb-true _ _ (and_left _ _ both); above = ltb-true _ _ (and_right (ltb (times n (2 * note_period hertz n - 1)) (second hertz)) _ both) }

-- ---- it is the only such number
times-grows : (n : ℕ) {x y : ℕ} → x ≤ y → times n x ≤ times n y
times-grows n h = mul-le-mul_right (2 ^ n) (mul-le-mul_right (440 ^ 12) (pow-le-pow_left h 12))

module _ (hertz n : ℕ) where
  none_below_a_nearest : (p q : ℕ) → Nearest hertz n p → Nearest hertz n q → p < q → ⊥
  none_below_a_nearest p q a b h =
      let far : 2 * p + 1 ≤ 2 * q - 1 = omega arith in
      lt_irrefl (times n (2 * p + 1)) (lt_of_le_of_lt (times-grows n far) (lt_of_lt_of_le b.below (le_of_lt a.above)))

pub nearest_one : NearestOne
nearest_one hertz n p q a b = neither-below (none_below_a_nearest hertz n p q a b) (none_below_a_nearest hertz n q p b a)
  where
    neither-below : (p < q → ⊥) → (q < p → ⊥) → p ≡ q
    neither-below f g = omega arith
