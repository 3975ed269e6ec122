-- What a test that was made says, and the parts of a test that held.
use Rattle.std.specs.Prelude.{◌≡◌, refl, Bool, true, false, not, cond, ◌&&◌, ◌||◌, ℕ, ◌+◌, ◌-◌, ◌≤◌, T, leb, eqb}
use Rattle.std.proofs.Common.{subst, sym, ◌∙◌, arith, le-leb, leb-true, leb-false, eqb-true}
use Rattle.std.proofs.lemmas.Bool.{not-true, not-false, lt-leb, eqb-false}

-- by how a test came out
pub by : {P : Type 0} (b : Bool) → (b ≡ true → P) → (b ≡ false → P) → P
by true f g = f refl
by false f g = g refl

pub cond_case : {A : Type 0} (c : Bool) (x y : A) (P : A → Type 0) → (c ≡ true → P x) → (c ≡ false → P y) → P (cond c x y)
cond_case true x y P f g = f refl
cond_case false x y P f g = g refl

pub cond_yes : {A : Type 0} {c : Bool} (x y : A) → c ≡ true → cond c x y ≡ x
cond_yes x y e = rw e

pub cond_no : {A : Type 0} {c : Bool} (x y : A) → c ≡ false → cond c x y ≡ y
cond_no x y e = rw e

pub yes_and_no : {b : Bool} → b ≡ true → b ≡ false → ⊥
yes_and_no e f = subst T (sym e ∙ f) tt

pub and_left : (a b : Bool) → a && b ≡ true → a ≡ true
and_left true b e = refl
and_left false b e = e

pub and_right : (a b : Bool) → a && b ≡ true → b ≡ true
and_right true b e = e
and_right false true e = refl
and_right false false e = e

pub and_no : (a : Bool) {b : Bool} → b ≡ false → a && b ≡ false
and_no true e = e
and_no false e = refl

pub neither : (a b : Bool) → a || b ≡ false → (a ≡ false) × (b ≡ false)
neither true b e = absurd (yes_and_no refl e)
neither false b e = (refl, e)

pub true-T : {b : Bool} → b ≡ true → T b
true-T e = subst T (sym e) tt

-- a test decides a statement
pub record Decides (b : Bool) (P : Type 0) : Type 0 where
  pub yes : b ≡ true → P
  pub no : b ≡ false → P → ⊥

-- the answer no, and the answer yes
pub refused : {P : Type 0} → (P → ⊥) → Decides false P
refused f = record { yes = λ e. absurd (yes_and_no e refl); no = λ e. f }

pub granted : {P : Type 0} → P → Decides true P
granted p = record { yes = λ e. p; no = λ e. absurd (yes_and_no refl e) }

-- comparisons
pub decides_le : (a b : ℕ) → Decides (leb a b) (a ≤ b)
decides_le a b = record { yes = leb-true a b; no = λ e p. let q = leb-false a b e in omega arith }

pub decides_eq : (a b : ℕ) → Decides (eqb a b) (a ≡ b)
decides_eq a b = record { yes = eqb-true a b; no = eqb-false a b }

-- with what is taken away on the one side added on the other
pub leb_sub : (a k n : ℕ) → k ≤ n → leb a (n - k) ≡ leb (a + k) n
leb_sub a k n h =
    by (leb (a + k) n)
    (λ e. le-leb a (n - k) (omega (arith, leb-true (a + k) n e)) ∙ sym e)
    (λ e. lt-leb a (n - k) (omega (arith, leb-false (a + k) n e)) ∙ sym e)

module _ {b : Bool} {P : Type 0} (d : Decides b P) where
  -- after a test `!b`: where it failed, and where it held
  pub passed : not b ≡ false → P
  passed e = d.yes (not-false b e)

  pub failed : not b ≡ true → P → ⊥
  failed e = d.no (not-true b e)

  -- it decides what is the same
  pub decides_as : {Q : Type 0} → (P → Q) → (Q → P) → Decides b Q
  decides_as f g = record { yes = λ e. f (d.yes e); no = λ e q. d.no e (g q) }
