-- The rule's curve from the slope up: what its square and its cube add to the slope, how large that is, and the sample beside it.
use Rattle.std.specs.Prelude.{◌≡◌, refl, [], ◌∷◌, ℕ, ◌*◌, ◌^◌, ◌≤◌, ℤ, pos, nat_abs, ◌+ℤ◌, ◌-ℤ◌, ◌*ℤ◌}
use Rattle.std.proofs.Common.{sym, ap, ◌∙◌, le_trans, leb→le, lit<, SFits}
use Rattle.std.specs.Int.{w16}
use Rattle.whole.specs.Numbers.{floor_div}
use Rattle.whole.specs.Floor.{floor-is, floor-one}
use Rattle.whole.specs.Bounds.{Within, w_add, w_sub, w_mul}
use Rattle.whole.specs.Words.{held as size}
use Rattle.whole.specs.Ring.{Expr, var, con, ◌⊕◌, ◌⊖◌, ◌⊗◌, solve}
use Rattle.rules.specs.Rules.{curve}
use Rattle.rules.specs.Through.{square_x, cube_x, curve_x}
use Rattle.rules.proofs.Through.{natural}

-- (2p - 5a + 4b - q)v + (3a - p - 3b + q)v^2 with v = u/4096, in 1/4096^2
unfoldable pub bend : ℤ → ℤ → ℤ → ℤ → ℕ → ℤ
bend p a b q u =
    (pos 2 *ℤ p -ℤ pos 5 *ℤ a +ℤ pos 4 *ℤ b -ℤ q) *ℤ pos u *ℤ pos 4096 +ℤ (pos 3 *ℤ a -ℤ p -ℤ pos 3 *ℤ b +ℤ q) *ℤ pos u *ℤ pos u

-- as an expression
abbrev pub bend_x : Expr → Expr → Expr → Expr → Expr → Expr
bend_x p a b q u = square_x p a b q ⊗ u ⊗ con (pos 4096) ⊕ cube_x p a b q ⊗ u ⊗ u

-- slope and bend, taken u times: how far the curve lies above the sample a, in 1/(2 x 4096^3)
unfoldable pub lift : ℤ → ℤ → ℤ → ℤ → ℕ → ℤ
lift p a b q u = (bend p a b q u +ℤ pos (4096 ^ 2) *ℤ (b -ℤ p)) *ℤ pos u

-- so the curve, by 2 x 4096^3 and rounded down, is a and that, rounded down
pub lift-beside : (p a b q : ℤ) (u : ℕ) → a +ℤ floor_div (lift p a b q u) (2 * 4096 ^ 3) ≡ floor_div (curve p a b q u) (2 * 4096 ^ 3)
unfolding curve bend lift
lift-beside p a b q u =
    let m = 2 * 4096 ^ 3 in
    let above = lift p a b q u in
    let f = floor-is above m (lit< tt) in
    let bent = bend_x (var 0) (var 1) (var 2) (var 3) (var 4) in
    let beside : curve p a b q u ≡ a *ℤ pos m +ℤ above =
    solve (p ∷ a ∷ b ∷ q ∷ pos u ∷ [])
    (curve_x (var 0) (var 1) (var 2) (var 3) (var 4))
    (var 1 ⊗ con (pos (2 * 4096 ^ 3)) ⊕ (bent ⊕ con (pos (4096 ^ 2)) ⊗ (var 2 ⊖ var 0)) ⊗ var 4)
    refl in
    let down = floor_div above m in
    sym (floor-one (floor-is (curve p a b q u) m (lit< tt))
    (record {
      rest = f.rest;
      small = f.small;
      whole = beside ∙ ap (λ (z : ℤ). a *ℤ pos m +ℤ z) f.whole ∙ solve (a ∷ down ∷ pos m ∷ pos f.rest ∷ []) (var 0 ⊗ var 2 ⊕ (var 1 ⊗ var 2 ⊕ var 3)) ((var 0 ⊕ var 1) ⊗ var 2 ⊕ var 3) refl;
    }))

-- twelve samples, u times 4096 times, and eight samples, u times u times
pub bend-within : {p a b q : ℤ} (u : ℕ) → u ≤ 4096 → SFits w16 p → SFits w16 a → SFits w16 b → SFits w16 q → nat_abs (bend p a b q u) ≤ 2 ^ 44
unfolding bend
bend-within u h f g k l =
    let p = size f in
    let a = size g in
    let b = size k in
    let q = size l in
    let v : Within 4096 (pos u) = record { within = h } in
    le_trans
    (w_add
    (w_mul (w_mul (w_sub (w_add (w_sub (w_mul (natural 2) p) (w_mul (natural 5) a)) (w_mul (natural 4) b)) q) v) (natural 4096))
    (w_mul (w_mul (w_add (w_sub (w_sub (w_mul (natural 3) a) p) (w_mul (natural 3) b)) q) v) v)).within
    (leb→le _ (2 ^ 44) tt)

pub lift-within : {p a b q : ℤ} (u : ℕ) → u ≤ 4096 → SFits w16 p → SFits w16 a → SFits w16 b → SFits w16 q → nat_abs (lift p a b q u) ≤ 2 ^ 57
unfolding lift
lift-within {p} {a} {b} {q} u h f g k l =
    let v : Within 4096 (pos u) = record { within = h } in
    let bent : Within (2 ^ 44) (bend p a b q u) = record { within = bend-within u h f g k l } in
    le_trans (w_mul (w_add bent (w_mul (natural (4096 ^ 2)) (w_sub (size k) (size f)))) v).within (leb→le _ (2 ^ 57) tt)
