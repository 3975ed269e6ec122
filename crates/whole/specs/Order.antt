-- Order of signed numbers by how far they lie below one natural number;
-- and what is not above a number lies a natural number below it.
use Rattle.std.specs.Prelude.{◌≡◌, refl, Bool, false, not, ℕ, suc, ◌-◌, ◌≤◌, ◌<◌, T, ltb, ℤ, pos, negsuc, nat_abs, ◌-ℤ◌, ◌≤ℤ◌}
use Rattle.std.proofs.Common.{sym, ap, ◌∙◌, subst, arith, ltb-true, ltb-false, lt-ltb, le-ltb, leb→le}
use Rattle.std.proofs.Math.IntN.{sub_ℕ, +ℤ_idr}
use Rattle.std.specs.Int.Signed.{lt_z, lt_z_no}
use Rattle.whole.specs.Tests.{by, cond_case}
use Rattle.whole.specs.Bounds.{subℕ-ge, pos_minus_pos, minus-down}

pub not_less : {a b : ℤ} → lt_z a b ≡ false → b ≤ℤ a
not_less e = lt_z_no (subst (λ (t : Bool). T (not t)) (sym e) tt)

same_test : (a b c d : ℕ) → (a < b → c < d) → (b ≤ a → d ≤ c) → ltb a b ≡ ltb c d
same_test a b c d f g =
    by (ltb a b) (λ t. t ∙ sym (lt-ltb c d (f (ltb-true a b t)))) (λ t. t ∙ sym (le-ltb c d (g (ltb-false a b t))))

-- of two numbers, N - u is the smaller where u is the larger
subℕ-less : (N u v : ℕ) → lt_z (sub_ℕ N u) (sub_ℕ N v) ≡ ltb v u
subℕ-less N u v =
    cond_case (ltb N u) (negsuc (u - suc N)) (pos (N - u)) (λ z. lt_z z (sub_ℕ N v) ≡ ltb v u)
    (λ s. let h = ltb-true N u s in
    cond_case (ltb N v) (negsuc (v - suc N)) (pos (N - v)) (λ z. lt_z (negsuc (u - suc N)) z ≡ ltb v u)
    (λ t. let k = ltb-true N v t in same_test (v - suc N) (u - suc N) v u (λ l. omega arith) (λ l. omega arith))
    (λ t. let k = ltb-false N v t in sym (lt-ltb v u (omega arith))))
    (λ s. let h = ltb-false N u s in
    cond_case (ltb N v) (negsuc (v - suc N)) (pos (N - v)) (λ z. lt_z (pos (N - u)) z ≡ ltb v u)
    (λ t. let k = ltb-true N v t in sym (le-ltb v u (omega arith)))
    (λ t. let k = ltb-false N v t in same_test (N - u) (N - v) v u (λ l. omega arith) (λ l. omega arith)))

pub minus_less : (N u v : ℕ) → lt_z (pos N -ℤ pos u) (pos N -ℤ pos v) ≡ ltb v u
minus_less N u v = rw (pos_minus_pos N u, pos_minus_pos N v) (subℕ-less N u v)

pub minus_not_above : (N v : ℕ) → lt_z (pos N) (pos N -ℤ pos v) ≡ false
minus_not_above N v = rw +ℤ_idr at (minus_less N 0 v ∙ le-ltb v 0 (omega arith))

pub below-is : (a c : ℤ) → a ≤ℤ c → pos (nat_abs (c -ℤ a)) ≡ c -ℤ a
below-is (pos a) (pos c) h = let e = minus-down c a (leb→le a c h.le) in ap (λ (z : ℤ). pos (nat_abs z)) e ∙ sym e
below-is (pos a) (negsuc c) h = absurd h.le
below-is (negsuc a) (pos c) h = refl
below-is (negsuc a) (negsuc c) h =
    let e = subℕ-ge (suc a) (suc c) (omega (arith, leb→le c a h.le)) in ap (λ (z : ℤ). pos (nat_abs z)) e ∙ sym e
