-- D(L) is the sum of (x[j] - x[j-L]) squared over the newest L samples: so it is never negative, and 0 exactly when the two newest cycles are equal.
-- The square of a difference is summed over a cycle, and E over two cycles is E over each of them.
use Rattle.std.specs.Prelude.{◌≡◌, refl, [], ◌∷◌, ℕ, zero, suc, ◌+◌, ◌*◌, ◌^◌, ◌≤◌, ◌<◌, ℤ, nat_abs, ◌+ℤ◌, ◌-ℤ◌, ◌*ℤ◌}
use Rattle.std.proofs.Math.Path.{sym, ap}
use Rattle.std.proofs.Common.{◌∙◌, add_comm, SFits}
use native.Mathlib.Omega.{arith}
use Rattle.std.proofs.Math.IntN.{pos}
use Rattle.std.specs.Int.{w16}
use Rattle.whole.specs.Bounds.{square_pos, square_zero, w_sub, w_mul}
use Rattle.whole.specs.Words.{held}
use Rattle.whole.specs.Ring.{var, con, ◌⊕◌, ◌⊖◌, ◌⊗◌, solve}
use Rattle.whole.specs.Sums.{adds, fold-split, fold-below, pos_total, total-zero, total-term, total-within}
use Rattle.whole.specs.Numbers.{fold, sum, total}
use Rattle.rules.specs.Rules.{Sound, sq, E, H, D}
use Rattle.rules.specs.Sounds.{apart, DistanceApart, DistanceIs, DistanceZero}
use Rattle.rules.proofs.Energies.{E-same, H-same}

squares : (a b : ℕ → ℤ) (n : ℕ)
    → sum (λ (k : ℕ). pos (sq (a k))) n +ℤ sum (λ (k : ℕ). pos (sq (b k))) n -ℤ pos 2 *ℤ sum (λ (k : ℕ). a k *ℤ b k) n ≡ sum (λ (k : ℕ). pos (sq (a k -ℤ b k))) n
unfolding fold
squares a b zero = refl
squares a b (suc n) =
    (λ i. sum (λ (k : ℕ). pos (sq (a k))) n +ℤ square_pos (a n) i +ℤ (sum (λ (k : ℕ). pos (sq (b k))) n +ℤ square_pos (b n) i) -ℤ pos 2 *ℤ (sum (λ (k : ℕ). a k *ℤ b k) n +ℤ a n *ℤ b n))
    ∙ solve (sum (λ (k : ℕ). pos (sq (a k))) n ∷ sum (λ (k : ℕ). pos (sq (b k))) n ∷ sum (λ (k : ℕ). a k *ℤ b k) n ∷ a n ∷ b n ∷ [])
    (var 0 ⊕ var 3 ⊗ var 3 ⊕ (var 1 ⊕ var 4 ⊗ var 4) ⊖ con (pos 2) ⊗ (var 2 ⊕ var 3 ⊗ var 4))
    (var 0 ⊕ var 1 ⊖ con (pos 2) ⊗ var 2 ⊕ (var 3 ⊖ var 4) ⊗ (var 3 ⊖ var 4))
    refl
    ∙ (λ i. squares a b n i +ℤ sym (square_pos (a n -ℤ b n)) i)

module _ (x : Sound) (L : ℕ) where
  two-cycles : E x L ≡ total (λ (k : ℕ). sq (x k)) L + total (λ (k : ℕ). sq (x (k + L))) L
  unfolding E
  two-cycles =
      let d : 2 * L ≡ L + L = omega arith in
      ap (total (λ (k : ℕ). sq (x k))) d
      ∙ fold-split adds (λ (k : ℕ). sq (x k)) L L
      ∙ ap (λ (n : ℕ). total (λ (k : ℕ). sq (x k)) L + n)
      (fold-below adds (λ (k : ℕ). sq (x (L + k))) (λ (k : ℕ). sq (x (k + L))) L (λ k h. ap (λ (n : ℕ). sq (x n)) (add_comm L k)))

  difference : pos (E x L) -ℤ pos 2 *ℤ H x L ≡ pos (apart x L)
  unfolding H apart
  difference =
      ap (λ (n : ℕ). pos n -ℤ pos 2 *ℤ H x L) two-cycles
      ∙ (λ i. pos_total (λ (k : ℕ). sq (x k)) L i +ℤ pos_total (λ (k : ℕ). sq (x (k + L))) L i -ℤ pos 2 *ℤ H x L)
      ∙ squares x (λ (k : ℕ). x (k + L)) L
      ∙ sym (pos_total (λ (k : ℕ). sq (x k -ℤ x (k + L))) L)

pub D-apart : DistanceApart
unfolding D
D-apart x L = ap nat_abs (difference x L)

-- and so E(L) - 2H(L) is never negative
pub D-is : DistanceIs
D-is x L = ap pos (D-apart x L) ∙ sym (difference x L)

-- D is 0 exactly when the two newest cycles are equal
same_there : (a b : ℤ) → sq (a -ℤ b) ≡ 0 → a ≡ b
same_there a b e =
    solve (a ∷ b ∷ []) (var 0) (var 1 ⊕ (var 0 ⊖ var 1)) refl ∙ ap (λ (z : ℤ). b +ℤ z) (square_zero (a -ℤ b) e) ∙ solve (b ∷ []) (var 0 ⊕ con (pos 0)) (var 0) refl

pub D-zero : DistanceZero
unfolding apart
D-zero x L = (
  λ e k h. same_there (x k) (x (k + L)) (omega (arith, total-term (λ (j : ℕ). sq (x j -ℤ x (j + L))) L k h, D-apart x L)),
  λ same.
      D-apart x L ∙ total-zero (λ (k : ℕ). sq (x k -ℤ x (k + L))) L
      (λ k h. ap (λ (z : ℤ). sq (z -ℤ x (k + L))) (same k h) ∙ ap sq (solve (x (k + L) ∷ []) (var 0 ⊖ var 0) (con (pos 0)) refl)),
)

-- D looks at the newest 2L samples and no further
pub D-same : (x y : Sound) (L : ℕ) → ((k : ℕ) → k < 2 * L → x k ≡ y k) → D x L ≡ D y L
unfolding D
D-same x y L same = λ i. nat_abs (pos (E-same x y L same i) -ℤ pos 2 *ℤ H-same x y L same i)

-- samples of 16 bits lie less than 2 ^ 16 apart
pub D-within : (x : Sound) → ((k : ℕ) → SFits w16 (x k)) → (L : ℕ) → D x L ≤ 2 ^ 32 * L
unfolding apart
D-within x fits L =
    rw (D-apart x L)
    (total-within (2 ^ 32) (λ (k : ℕ). sq (x k -ℤ x (k + L)))
    (λ k. let w = w_sub (held (fits k)) (held (fits (k + L))) in (w_mul w w).within) L)
