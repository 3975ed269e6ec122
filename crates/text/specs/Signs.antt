-- Laws of samples and their sizes.
use Rattle.std.specs.Prelude.{◌≡◌, refl, ◌∷◌, ℕ, zero, suc, ◌≤◌, ◌-ℤ◌, ℤ, pos, negsuc, neg_ℤ, nat_abs, ◌<ℤ◌, ◌≤ℤ◌}
use Rattle.std.proofs.Common.{◌∙◌, subst, sym, arith, ltb→lt, SFits, to_z, of_z}
use Rattle.std.proofs.Math.IntN.{+ℤ_idl}
use mir.Facts.{to_z-of_z}
use Rattle.std.specs.Int.{w16, w32}
use Rattle.whole.specs.Words.{num, lit, sub}
use Rattle.text.specs.Text.{decimal, signed}

-- 0 less n, from 0 down to -32768
below-fits : (n : ℕ) → n ≤ 32768 → SFits w16 (neg_ℤ (pos n))
below-fits zero h = record { sfits = omega arith }
below-fits (suc n) h = record { sfits = omega arith }

pub read_below : (n : ℕ) → n ≤ 32768 → to_z w16 (of_z w16 (to_z w32 (of_z w32 (pos 0 -ℤ to_z w32 n)))) ≡ neg_ℤ (pos n)
read_below n h =
    let less = (sub (lit w32 0) (num {w = w32} {n = 32768} {z = pos n} h tt) tt).reads ∙ +ℤ_idl (neg_ℤ (pos n)) in
    to_z-of_z (subst (SFits w16) (sym less) (below-fits n h)) ∙ less

-- a sample below 0, and one that is not
pub signed_below : (x : ℤ) → x <ℤ pos 0 → signed x ≡ 45 ∷ decimal (nat_abs x)
unfolding signed
signed_below (pos n) l = absurd (omega (arith, ltb→lt n 0 l.lt))
signed_below (negsuc n) l = refl

pub signed_above : (x : ℤ) → pos 0 ≤ℤ x → signed x ≡ decimal (nat_abs x)
unfolding signed
signed_above (pos n) l = refl
signed_above (negsuc n) l = absurd l.le
