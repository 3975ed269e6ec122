-- A whole number below 2 ^ 24, divided by a power of two up to 2 ^ 149, as f32: nothing is rounded.
use Rattle.std.specs.Prelude.{◌≡◌, Bool, ℕ, ◌+◌, ◌-◌, ◌*◌, ◌^◌, ◌≤◌, ◌<◌, pos, T, Float}
use Rattle.std.proofs.Math.Path.{sym, ap}
use Rattle.std.proofs.Common.{◌∙◌, subst, le_of_lt, lt_of_lt_of_le, mul_assoc, mul_comm, mul-pos, one-mul, le→leb, pow-add, pow_pos, pow_mono, shl_lt}
use Rattle.std.proofs.Math.Bool.{false}
use native.Mathlib.Omega.{arith}
use Rattle.std.specs.Float.{nan, inf, fin}
use Rattle.std.specs.Float.Ieee.{binary32, up, down, unlike, div, round, of_int, in_float}
use Rattle.std.specs.Float.Ieee.Digits.{back}
use Rattle.std.specs.Float.Ieee.Fits.{down_pos}
use Rattle.std.specs.Float.Ieee.Exact.{HasValue, round_exact}
use Rattle.std.specs.Float.Ieee.Back.{round_whole}
use Rattle.std.specs.Float.Ieee.Scale.{round_same}
use Rattle.meters.specs.Meters.{Exactly, ratio}

-- such a number is cast
pub castable : {n : ℕ} → n < 2 ^ 24 → T (in_float binary32 (pos n))
unfolding in_float
castable {n} h = le→leb n (2 ^ 24) (le_of_lt h)

-- a float that is n, divided by 2 ^ k, is n / 2 ^ k rounded
divided : (x : Float) (n k : ℕ) → HasValue x false n 1 → div binary32 x (fin false 1 (pos k)) ≡ round binary32 false n (2 ^ k)
unfolding div
divided nan n k v = absurd v
divided (inf t) n k v = absurd v
divided (fin t m e) n k v =
    ap (λ (s : Bool). round binary32 (unlike s false) (m * up e * 1) (1 * 2 ^ k * down e)) v.0
    ∙ round_same binary32 false (m * up e * 1) (1 * 2 ^ k * down e) n (2 ^ k) (mul-pos (mul-pos (omega arith) (pow_pos k)) (down_pos e)) (pow_pos k)
    (ap (λ (x : ℕ). x * 2 ^ k) v.1 ∙ mul_assoc n (down e) (2 ^ k) ∙ ap (λ (x : ℕ). n * x) (mul_comm (down e) (2 ^ k) ∙ ap (λ (x : ℕ). x * down e) (sym (one-mul (2 ^ k)))))

module _ (n k : ℕ) (h : n < 2 ^ 24) (l : k ≤ 149) where
  -- the law: nothing is rounded
  unrounded : HasValue (ratio n (2 ^ k)) false n (2 ^ k)
  unfolding ratio
  unrounded =
      let fine : 24 + (149 - k) ≤ 277 = omega arith in
      round_exact binary32 false n (2 ^ k) n (149 - k) (pow_pos k) h (lt_of_lt_of_le (shl_lt 24 (149 - k) h) (pow_mono fine))
      (ap (λ (x : ℕ). n * x) (sym (sym (pow-add 2 (149 - k) k) ∙ ap (λ (x : ℕ). 2 ^ x) (back 149 k l))) ∙ sym (mul_assoc n (2 ^ (149 - k)) (2 ^ k)))

  pub exactly : {r : Float} → r ≡ ratio n (2 ^ k) → Exactly n (2 ^ k) r
  exactly e = record { is = e; exact = subst (λ (x : Float). HasValue x false n (2 ^ k)) (sym e) unrounded }

  -- cast and divided
  pub divided-exactly : Exactly n (2 ^ k) (div binary32 (of_int binary32 (pos n)) (fin false 1 (pos k)))
  unfolding of_int ratio
  divided-exactly = exactly (divided (round binary32 false n 1) n k (round_whole binary32 false n (le_of_lt h)))
