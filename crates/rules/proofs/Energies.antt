-- The patent's recurrences (4) and (5) equal the direct sums, at any lag and for any sound, the eighth-rate one too; a lag more takes two squares;
-- and the sums of 16-bit samples are bounded. All by one law of sums: a window that moves on by one (`slide`).
use Rattle.std.specs.Prelude.{◌≡◌, refl, ℕ, suc, ◌+◌, ◌*◌, ◌^◌, ◌≤◌, ◌<◌, ℤ, pos, ◌+ℤ◌, ◌-ℤ◌, ◌*ℤ◌}
use Rattle.std.proofs.Common.{◌∙◌, zero-add, suc-add, arith, SFits}
use Rattle.std.proofs.Math.Path.{ap}
use Rattle.std.specs.Int.{w16}
use Rattle.whole.specs.Bounds.{Within, square_zero, w_mul}
use Rattle.whole.specs.Words.{held}
use Rattle.whole.specs.Sums.{adds, addsℤ, slide, fold_step, fold-below, sum-slide, sum-within, total-within, total-term, total-grows}
use Rattle.whole.specs.Numbers.{sum, total}
use Rattle.rules.specs.Rules.{Sound, older, heard, sq, E, H}
use Rattle.rules.specs.Sounds.{next_e, next_h, EnergyNext, CorrelationNext, TwoSquares}

-- (4) without its subtraction
pub E-slides : (x : Sound) (L : ℕ) → E x L + sq (x (2 * L)) ≡ E (older x) L + sq (x 0)
unfolding E
E-slides x L = slide adds (λ (k : ℕ). sq (x (suc k))) (λ (k : ℕ). sq (x k)) (λ k. refl) (2 * L)

pub E-next : EnergyNext
unfolding next_e
E-next x L = omega (arith, E-slides x L)

pub H-next : CorrelationNext
unfolding next_h H
H-next x L =
    let d : L + L ≡ 2 * L = omega arith in
    sum-slide (λ (k : ℕ). x (suc k) *ℤ x (suc (k + L))) (λ (k : ℕ). x k *ℤ x (k + L)) (λ k. rw suc-add) L
    ∙ (λ i. sum (λ (k : ℕ). x (suc k) *ℤ x (suc (k + L))) L +ℤ x 0 *ℤ x (zero-add L i) -ℤ x L *ℤ x (d i))

-- lags L and L + 1 differ by two squares
pub E-shift : TwoSquares
unfolding E
E-shift x L =
    let d : 2 * (L + 1) ≡ 2 * L + 1 + 1 = omega arith in
    ap (total (λ (k : ℕ). sq (x k))) d
    ∙ fold_step adds (λ (k : ℕ). sq (x k)) (2 * L + 1)
    ∙ ap (λ (n : ℕ). n + sq (x (2 * L + 1))) (fold_step adds (λ (k : ℕ). sq (x k)) (2 * L))

-- E does not fall with the lag
pub E-grows : (x : Sound) {L M : ℕ} → L ≤ M → E x L ≤ E x M
unfolding E
E-grows x h = total-grows (λ (k : ℕ). sq (x k)) (omega arith)

-- without energy every sample is 0
pub no-energy : (x : Sound) (L : ℕ) → E x L ≡ 0 → (k : ℕ) → k < 2 * L → x k ≡ pos 0
unfolding E
no-energy x L e k h = square_zero (x k) (omega (arith, total-term (λ (j : ℕ). sq (x j)) (2 * L) k h))

-- before a sample is heard, and after
pub older-heard : (new : ℤ) (x : Sound) → older (heard new x) ≡ x
unfolding heard
older-heard new x = refl

-- the sums look at the newest 2L samples and no further
module _ (x y : Sound) (L : ℕ) (same : (k : ℕ) → k < 2 * L → x k ≡ y k) where
  pub E-same : E x L ≡ E y L
  unfolding E
  E-same = fold-below adds (λ (k : ℕ). sq (x k)) (λ (k : ℕ). sq (y k)) (2 * L) (λ k h. ap sq (same k h))

  pub H-same : H x L ≡ H y L
  unfolding H
  H-same =
      fold-below addsℤ (λ (k : ℕ). x k *ℤ x (k + L)) (λ (k : ℕ). y k *ℤ y (k + L)) L
      (λ k h i. same k (omega arith) i *ℤ same (k + L) (omega arith) i)

-- samples of 16 bits
module _ (x : Sound) (fits : (k : ℕ) → SFits w16 (x k)) (L : ℕ) where
  pub E-within : E x L ≤ 2 ^ 30 * (2 * L)
  unfolding E
  E-within = total-within (2 ^ 30) (λ (k : ℕ). sq (x k)) (λ k. (w_mul (held (fits k)) (held (fits k))).within) (2 * L)

  pub H-within : Within (2 ^ 30 * L) (H x L)
  unfolding H
  H-within = sum-within (2 ^ 30) (λ (k : ℕ). x k *ℤ x (k + L)) (λ k. w_mul (held (fits k)) (held (fits (k + L)))) L
