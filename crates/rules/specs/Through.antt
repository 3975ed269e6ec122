-- The reading through four neighbours: with u = 0 it is the sample, on a straight line the line's value rounded down, and always a sample of 16 bits.
-- The square and the cube vanish on a straight line; what is left lies between two samples, so that it need not be held.
use Rattle.std.specs.Prelude.{◌^◌}
use Rattle.std.proofs.Math.IntN.{pos}
use Rattle.whole.specs.Ring.{Expr, con, ◌⊕◌, ◌⊖◌, ◌⊗◌}

-- ---- the curve as an expression, with the factors of its square and its cube
abbrev pub square_x : Expr → Expr → Expr → Expr → Expr
square_x p a b q = con (pos 2) ⊗ p ⊖ con (pos 5) ⊗ a ⊕ con (pos 4) ⊗ b ⊖ q

abbrev pub cube_x : Expr → Expr → Expr → Expr → Expr
cube_x p a b q = con (pos 3) ⊗ a ⊖ p ⊖ con (pos 3) ⊗ b ⊕ q

abbrev pub curve_x : Expr → Expr → Expr → Expr → Expr → Expr
curve_x p a b q u =
    con (pos 2) ⊗ a ⊗ con (pos (4096 ^ 3)) ⊕ (b ⊖ p) ⊗ u ⊗ con (pos (4096 ^ 2)) ⊕ square_x p a b q ⊗ u ⊗ u ⊗ con (pos 4096) ⊕ cube_x p a b q ⊗ u ⊗ u ⊗ u
