-- The reading through four neighbours: with u = 0 it is the sample, on a straight line the line's value rounded down, and always a sample of 16 bits.
-- The square and the cube vanish on a straight line; what is left lies between two samples, so that it need not be held.
use Rattle.std.specs.Prelude.{◌≡◌, [], ◌∷◌, ℕ, suc, ◌+◌, ◌*◌, ◌-◌, ◌/◌, ◌%◌, ◌^◌, ◌≤◌, ◌<◌, ltb, ℤ, negsuc, ◌+ℤ◌, ◌-ℤ◌, ◌*ℤ◌}
use Rattle.std.proofs.Math.Path.{refl}
use Rattle.std.proofs.Common.{sym, ap, ◌∙◌, subst, le_refl, div-add-mod', mod-lt, mul-le-mul_right, suc-mul, arith, ltb-false, le-ltb, leb→le, lit<, SFits}
use Rattle.std.proofs.Math.IntN.{pos}
use Rattle.std.specs.Int.Signed.{mag}
use Rattle.std.specs.Int.{w16, w64}
use Rattle.whole.specs.Tests.{cond_case, cond_no}
use Rattle.whole.specs.Bounds.{Within, w_add, w_sub, w_mul, minus-down, pos_minus_pos, subℕ-lt}
use Rattle.whole.specs.Words.{fit, held as size}
use Rattle.whole.specs.Floor.{floor-is, floor-one}
use Rattle.whole.specs.Numbers.{floor_div}
use Rattle.whole.specs.Ring.{var, con, ◌⊕◌, ◌⊖◌, ◌⊗◌, solve}
use Rattle.rules.specs.Rules.{curve, held, through}
use Rattle.rules.specs.Facts.{SixteenBits}
use Rattle.rules.specs.Sounds.{AtTheSample}
use Rattle.rules.specs.Through.{curve_x}

-- ---- what is held

-- a sample comes out
pub held_fits : (z : ℤ) → SFits w16 (held z)
unfolding held
held_fits (pos n) =
    cond_case (ltb 32767 n) (pos 32767) (pos n) (λ z. SFits w16 z) (λ t. record { sfits = lit< tt }) (λ t. record { sfits = omega (arith, ltb-false 32767 n t) })
held_fits (negsuc n) =
    cond_case (ltb 32767 n) (negsuc 32767) (negsuc n) (λ z. SFits w16 z) (λ t. record { sfits = lit< tt }) (λ t. record { sfits = omega (arith, ltb-false 32767 n t) })

-- a sample is left as it is
pub held_same : (z : ℤ) → SFits w16 z → held z ≡ z
unfolding held
held_same (pos n) f = cond_no (pos 32767) (pos n) (le-ltb 32767 n (omega (arith, f.sfits)))
held_same (negsuc n) f = cond_no (negsuc 32767) (negsuc n) (le-ltb 32767 n (omega (arith, f.sfits)))

pub through-fits : (p a b q : ℤ) (u : ℕ) → SFits w16 (through p a b q u)
unfolding through
through-fits p a b q u = held_fits _

-- what rounds down to a sample is that sample
through-is : (p a b q : ℤ) (u : ℕ) (z : ℤ) (rest : ℕ) → curve p a b q u ≡ z *ℤ pos (2 * 4096 ^ 3) +ℤ pos rest → rest < 2 * 4096 ^ 3 → SFits w16 z
    → through p a b q u ≡ z
unfolding through
through-is p a b q u z rest e small f =
    ap held (floor-one (floor-is (curve p a b q u) (2 * 4096 ^ 3) (lit< tt)) (record { rest = rest; small = small; whole = e })) ∙ held_same z f

-- ---- with u = 0 it is the sample a
pub through-none : (p a b q : ℤ) → SFits w16 a → through p a b q 0 ≡ a
unfolding curve
through-none p a b q f =
    through-is p a b q 0 a 0
    (solve (p ∷ a ∷ b ∷ q ∷ []) (curve_x (var 0) (var 1) (var 2) (var 3) (con (pos 0))) (var 1 ⊗ con (pos (2 * 4096 ^ 3)) ⊕ con (pos 0)) refl)
    (lit< tt)
    f

pub sixteen_fits : (a : ℤ) → SixteenBits a → SFits w16 a
sixteen_fits (pos n) h = record { sfits = omega (arith, leb→le n 32767 h.1.le) }
sixteen_fits (negsuc n) h = record { sfits = omega (arith, leb→le n 32767 h.0.le) }

pub at_the_sample : AtTheSample
at_the_sample p a b q h = through-none p a b q (sixteen_fits a h)

-- ---- a value between two samples is a sample

-- a sample is a number below 65536, less 32768
from_zero : (a : ℤ) → mag a < 32768 → (u : ℕ) × (a ≡ pos u -ℤ pos 32768) × (u < 65536)
from_zero (pos k) h = (k + 32768, sym (minus-down (k + 32768) 32768 (omega arith) ∙ ap pos (omega arith)), omega arith)
from_zero (negsuc k) h =
    (32767 - k, sym (pos_minus_pos (32767 - k) 32768 ∙ subℕ-lt (32767 - k) 32768 (omega arith) ∙ ap negsuc (omega arith)), omega arith)

to-sample : (u : ℕ) → u < 65536 → mag (pos u -ℤ pos 32768) < 32768
to-sample u h =
    rw (pos_minus_pos u 32768)
    (cond_case (ltb u 32768) (negsuc (32768 - suc u)) (pos (u - 32768)) (λ z. mag z < 32768) (λ t. omega arith) (λ t. omega arith))

-- so a mean of two by weights is the mean of those numbers, less 32768
mean_is : (u v g f : ℕ) → g + f ≡ 4096 → let s : ℕ = u * g + v * f in
    (pos u -ℤ pos 32768) *ℤ pos g +ℤ (pos v -ℤ pos 32768) *ℤ pos f ≡ (pos (s / 4096) -ℤ pos 32768) *ℤ pos 4096 +ℤ pos (s % 4096)
mean_is u v g f e =
    let s : ℕ = u * g + v * f in
    solve (pos u ∷ pos v ∷ pos g ∷ pos f ∷ []) ((var 0 ⊖ con (pos 32768)) ⊗ var 2 ⊕ (var 1 ⊖ con (pos 32768)) ⊗ var 3) (var 0 ⊗ var 2 ⊕ var 1 ⊗ var 3 ⊖ con (pos 32768) ⊗ (var 2 ⊕ var 3)) refl
    ∙ (λ i. pos (sym (div-add-mod' s 4096) i) -ℤ pos 32768 *ℤ pos (e i))
    ∙ solve (pos (s / 4096) ∷ pos (s % 4096) ∷ []) (var 0 ⊗ con (pos 4096) ⊕ var 1 ⊖ con (pos 32768) ⊗ con (pos 4096)) ((var 0 ⊖ con (pos 32768)) ⊗ con (pos 4096) ⊕ var 1) refl

mean_fits : {a b : ℤ} (f : ℕ) → f ≤ 4096 → SFits w16 a → SFits w16 b → SFits w16 (floor_div (a *ℤ pos (4096 - f) +ℤ b *ℤ pos f) 4096)
mean_fits {a} {b} f h p q =
    let (u, d, k) = from_zero a p.sfits in
    let (v, e, l) = from_zero b q.sfits in
    let g = 4096 - f in
    let s : ℕ = u * g + v * f in
    let small : s / 4096 < 65536 = omega (arith, mul-le-mul_right g k, mul-le-mul_right f l, suc-mul u g, suc-mul v f) in
    let is : floor_div (a *ℤ pos g +ℤ b *ℤ pos f) 4096 ≡ pos (s / 4096) -ℤ pos 32768 =
    floor-one (floor-is (a *ℤ pos g +ℤ b *ℤ pos f) 4096 (lit< tt))
    (record { rest = s % 4096; small = mod-lt s (lit< tt); whole = (λ i. d i *ℤ pos g +ℤ e i *ℤ pos f) ∙ mean_is u v g f (omega arith) }) in
    record { sfits = rw is (to-sample (s / 4096) small) }

-- ---- on a straight line, of steps d, it is the line's value rounded down
module _ (a d : ℤ) (u : ℕ) where
  -- square and cube vanish
  curve-line : curve (a -ℤ d) a (a +ℤ d) (a +ℤ d +ℤ d) u ≡ (a *ℤ pos 4096 +ℤ d *ℤ pos u) *ℤ pos (2 * 4096 ^ 2)
  unfolding curve
  curve-line =
      solve (a ∷ d ∷ pos u ∷ [])
      (curve_x (var 0 ⊖ var 1) (var 0) (var 0 ⊕ var 1) (var 0 ⊕ var 1 ⊕ var 1) (var 2))
      ((var 0 ⊗ con (pos 4096) ⊕ var 1 ⊗ var 2) ⊗ con (pos (2 * 4096 ^ 2))) refl

  line-fits : u ≤ 4096 → SFits w16 a → SFits w16 (a +ℤ d) → SFits w16 (floor_div (a *ℤ pos 4096 +ℤ d *ℤ pos u) 4096)
  line-fits h f g =
      subst (λ (z : ℤ). SFits w16 (floor_div z 4096))
      (ap (λ (z : ℤ). a *ℤ z +ℤ (a +ℤ d) *ℤ pos u) (sym (minus-down 4096 u h))
      ∙ solve (a ∷ d ∷ pos u ∷ []) (var 0 ⊗ (con (pos 4096) ⊖ var 2) ⊕ (var 0 ⊕ var 1) ⊗ var 2) (var 0 ⊗ con (pos 4096) ⊕ var 1 ⊗ var 2) refl)
      (mean_fits u h f g)

  pub through-line : u ≤ 4096 → SFits w16 a → SFits w16 (a +ℤ d) → through (a -ℤ d) a (a +ℤ d) (a +ℤ d +ℤ d) u ≡ floor_div (a *ℤ pos 4096 +ℤ d *ℤ pos u) 4096
  through-line h f g =
      let z = floor_div (a *ℤ pos 4096 +ℤ d *ℤ pos u) 4096 in
      let l = floor-is (a *ℤ pos 4096 +ℤ d *ℤ pos u) 4096 (lit< tt) in
      through-is (a -ℤ d) a (a +ℤ d) (a +ℤ d +ℤ d) u z (l.rest * (2 * 4096 ^ 2))
      (curve-line
      ∙ ap (λ (v : ℤ). v *ℤ pos (2 * 4096 ^ 2)) l.whole
      ∙ solve (z ∷ pos l.rest ∷ []) ((var 0 ⊗ con (pos 4096) ⊕ var 1) ⊗ con (pos (2 * 4096 ^ 2))) (var 0 ⊗ con (pos (2 * 4096 ^ 3)) ⊕ var 1 ⊗ con (pos (2 * 4096 ^ 2))) refl)
      (omega (arith, l.small))
      (line-fits h f g)

-- ---- its whole number is small: less than 2^63 to either side

pub natural : (n : ℕ) → Within n (pos n)
natural n = record { within = le_refl n }

pub curve-fits : {p a b q : ℤ} (u : ℕ) → u ≤ 4096 → SFits w16 p → SFits w16 a → SFits w16 b → SFits w16 q → SFits w64 (curve p a b q u)
unfolding curve
curve-fits u h f g k l =
    let p = size f in
    let a = size g in
    let b = size k in
    let q = size l in
    let v : Within 4096 (pos u) = record { within = h } in
    fit
    (w_add
    (w_add
    (w_add (w_mul (w_mul (natural 2) a) (natural (4096 ^ 3))) (w_mul (w_mul (w_sub b p) v) (natural (4096 ^ 2))))
    (w_mul (w_mul (w_mul (w_sub (w_add (w_sub (w_mul (natural 2) p) (w_mul (natural 5) a)) (w_mul (natural 4) b)) q) v) v) (natural 4096)))
    (w_mul (w_mul (w_mul (w_add (w_sub (w_sub (w_mul (natural 3) a) p) (w_mul (natural 3) b)) q) v) v) v))
    tt
