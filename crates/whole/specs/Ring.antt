-- Equations of the ring ℤ, by computation: `solve ρ e f refl : eval ρ e ≡ eval ρ f`, where the expressions e and f have one polynomial.
use Rattle.std.specs.Prelude.{◌≡◌, refl, Bool, true, false, cond, ◌&&◌, List, [], ◌∷◌, ℕ, zero, suc, T, leb, ltb, eqb, get_or, ℤ, pos, negsuc, neg_ℤ, ◌+ℤ◌, ◌-ℤ◌, ◌*ℤ◌}
use Rattle.std.proofs.Common.{sym, ap, ◌∙◌, eqb→eq}
use Rattle.std.proofs.Math.IntN.{+ℤ_assoc, +ℤ_comm, +ℤ_idl, +ℤ_idr, suc_ℤ-*ℤ, zero-*ℤ, *ℤ_comm}
use Rattle.whole.specs.RingLaws.{*ℤ-distribʳ, *ℤ-distribˡ, *ℤ-assoc, neg-*ℤ}

-- ---- expressions, over the variables ρ 0, ρ 1, ..
infixl 6 ◌⊕◌ ◌⊖◌
infixl 7 ◌⊗◌
pub data Expr : Type 0 where
  var : ℕ → Expr
  con : ℤ → Expr
  ◌⊕◌ : Expr → Expr → Expr
  ◌⊖◌ : Expr → Expr → Expr
  ◌⊗◌ : Expr → Expr → Expr
  neg : Expr → Expr

abbrev pub eval : List ℤ → Expr → ℤ
eval ρ (var v) = get_or ρ v (pos 0)
eval ρ (con k) = k
eval ρ (a ⊕ b) = eval ρ a +ℤ eval ρ b
eval ρ (a ⊖ b) = eval ρ a -ℤ eval ρ b
eval ρ (a ⊗ b) = eval ρ a *ℤ eval ρ b
eval ρ (neg a) = neg_ℤ (eval ρ a)

-- ---- polynomials: a coefficient and the variables of each term, in order
pub data Poly : Type 0 where
  nil : Poly
  term : ℤ → List ℕ → Poly → Poly

abbrev insert_v : ℕ → List ℕ → List ℕ
insert_v v [] = v ∷ []
insert_v v (w ∷ ws) = cond (leb v w) (v ∷ w ∷ ws) (w ∷ insert_v v ws)

abbrev mul_v : List ℕ → List ℕ → List ℕ
mul_v [] ws = ws
mul_v (v ∷ vs) ws = insert_v v (mul_v vs ws)

abbrev eq_v : List ℕ → List ℕ → Bool
eq_v [] [] = true
eq_v [] (w ∷ ws) = false
eq_v (v ∷ vs) [] = false
eq_v (v ∷ vs) (w ∷ ws) = eqb v w && eq_v vs ws

abbrev lt_v : List ℕ → List ℕ → Bool
lt_v [] [] = false
lt_v [] (w ∷ ws) = true
lt_v (v ∷ vs) [] = false
lt_v (v ∷ vs) (w ∷ ws) = cond (eqb v w) (lt_v vs ws) (ltb v w)

abbrev put : ℤ → List ℕ → Poly → Poly
put (pos zero) vs p = p
put (pos (suc n)) vs p = term (pos (suc n)) vs p
put (negsuc n) vs p = term (negsuc n) vs p

abbrev add_t : ℤ → List ℕ → Poly → Poly
add_t k vs nil = put k vs nil
add_t k vs (term j ws p) = cond (eq_v vs ws) (put (k +ℤ j) ws p) (cond (lt_v vs ws) (put k vs (term j ws p)) (term j ws (add_t k vs p)))

abbrev add_p : Poly → Poly → Poly
add_p nil q = q
add_p (term k vs p) q = add_t k vs (add_p p q)

abbrev mul_t : ℤ → List ℕ → Poly → Poly
mul_t k vs nil = nil
mul_t k vs (term j ws p) = add_t (k *ℤ j) (mul_v vs ws) (mul_t k vs p)

abbrev mul_p : Poly → Poly → Poly
mul_p nil q = nil
mul_p (term k vs p) q = add_p (mul_t k vs q) (mul_p p q)

abbrev pub norm : Expr → Poly
norm (var v) = term (pos 1) (v ∷ []) nil
norm (con k) = put k [] nil
norm (a ⊕ b) = add_p (norm a) (norm b)
norm (a ⊖ b) = add_p (norm a) (mul_t (negsuc 0) [] (norm b))
norm (a ⊗ b) = mul_p (norm a) (norm b)
norm (neg a) = mul_t (negsuc 0) [] (norm a)

-- ---- a polynomial has its expression's value
one-*ℤ : (x : ℤ) → pos 1 *ℤ x ≡ x
one-*ℤ x = suc_ℤ-*ℤ (pos 0) x ∙ ap (λ (z : ℤ). z +ℤ x) (zero-*ℤ x) ∙ +ℤ_idl x

+ℤ-left : (x y z : ℤ) → x +ℤ (y +ℤ z) ≡ y +ℤ (x +ℤ z)
+ℤ-left x y z = sym (+ℤ_assoc x y z) ∙ ap (λ (v : ℤ). v +ℤ z) (+ℤ_comm x y) ∙ +ℤ_assoc y x z

*ℤ-left : (x y z : ℤ) → x *ℤ (y *ℤ z) ≡ y *ℤ (x *ℤ z)
*ℤ-left x y z = sym (*ℤ-assoc x y z) ∙ ap (λ (v : ℤ). v *ℤ z) (*ℤ_comm x y) ∙ *ℤ-assoc y x z

both : {X : Type 0} (P : X → Type 0) (b : Bool) {x y : X} → (T b → P x) → P y → P (cond b x y)
both P true f q = f tt
both P false f q = q

eq_v-is : (vs ws : List ℕ) → T (eq_v vs ws) → vs ≡ ws
eq_v-is [] [] t = refl
eq_v-is [] (w ∷ ws) t = absurd t
eq_v-is (v ∷ vs) [] t = absurd t
eq_v-is (v ∷ vs) (w ∷ ws) t = (λ i. eqb→eq v w (fst (eqb v w) (eq_v vs ws) t) i ∷ eq_v-is vs ws (snd (eqb v w) (eq_v vs ws) t) i)
  where
    fst : (a b : Bool) → T (a && b) → T a
    fst true b t = tt
    fst false b t = t

    snd : (a b : Bool) → T (a && b) → T b
    snd true b t = t
    snd false b t = absurd t

module _ (ρ : List ℤ) where
  abbrev val_v : List ℕ → ℤ
  val_v [] = pos 1
  val_v (v ∷ vs) = get_or ρ v (pos 0) *ℤ val_v vs

  abbrev val : Poly → ℤ
  val nil = pos 0
  val (term k vs p) = k *ℤ val_v vs +ℤ val p

  insert_v-is : (v : ℕ) (ws : List ℕ) → val_v (insert_v v ws) ≡ get_or ρ v (pos 0) *ℤ val_v ws
  insert_v-is v [] = refl
  insert_v-is v (w ∷ ws) =
      both (λ (l : List ℕ). val_v l ≡ get_or ρ v (pos 0) *ℤ val_v (w ∷ ws)) (leb v w) (λ t. refl)
      (ap (λ (z : ℤ). get_or ρ w (pos 0) *ℤ z) (insert_v-is v ws) ∙ *ℤ-left (get_or ρ w (pos 0)) (get_or ρ v (pos 0)) (val_v ws))

  mul_v-is : (vs ws : List ℕ) → val_v (mul_v vs ws) ≡ val_v vs *ℤ val_v ws
  mul_v-is [] ws = sym (one-*ℤ (val_v ws))
  mul_v-is (v ∷ vs) ws =
      insert_v-is v (mul_v vs ws) ∙ ap (λ (z : ℤ). get_or ρ v (pos 0) *ℤ z) (mul_v-is vs ws) ∙ sym (*ℤ-assoc (get_or ρ v (pos 0)) (val_v vs) (val_v ws))

  put_is : (k : ℤ) (vs : List ℕ) (p : Poly) → val (put k vs p) ≡ k *ℤ val_v vs +ℤ val p
  put_is (pos zero) vs p = sym (ap (λ (z : ℤ). z +ℤ val p) (zero-*ℤ (val_v vs)) ∙ +ℤ_idl (val p))
  put_is (pos (suc n)) vs p = refl
  put_is (negsuc n) vs p = refl

  add_t-is : (k : ℤ) (vs : List ℕ) (p : Poly) → val (add_t k vs p) ≡ k *ℤ val_v vs +ℤ val p
  add_t-is k vs nil = put_is k vs nil
  add_t-is k vs (term j ws p) =
      both (λ (q : Poly). val q ≡ k *ℤ val_v vs +ℤ (j *ℤ val_v ws +ℤ val p)) (eq_v vs ws)
      (λ t. put_is (k +ℤ j) ws p ∙ ap (λ (z : ℤ). z +ℤ val p) (*ℤ-distribʳ k j (val_v ws)) ∙ +ℤ_assoc (k *ℤ val_v ws) (j *ℤ val_v ws) (val p) ∙ ap (λ (l : List ℕ). k *ℤ val_v l +ℤ (j *ℤ val_v ws +ℤ val p)) (sym (eq_v-is vs ws t)))
      (both (λ (q : Poly). val q ≡ k *ℤ val_v vs +ℤ (j *ℤ val_v ws +ℤ val p)) (lt_v vs ws)
      (λ t. put_is k vs (term j ws p))
      (ap (λ (z : ℤ). j *ℤ val_v ws +ℤ z) (add_t-is k vs p) ∙ +ℤ-left (j *ℤ val_v ws) (k *ℤ val_v vs) (val p)))

  add_p-is : (p q : Poly) → val (add_p p q) ≡ val p +ℤ val q
  add_p-is nil q = sym (+ℤ_idl (val q))
  add_p-is (term k vs p) q =
      add_t-is k vs (add_p p q) ∙ ap (λ (z : ℤ). k *ℤ val_v vs +ℤ z) (add_p-is p q) ∙ sym (+ℤ_assoc (k *ℤ val_v vs) (val p) (val q))

  -- (k j) (v w) = (k v) (j w)
  four : (k j v w : ℤ) → k *ℤ j *ℤ (v *ℤ w) ≡ k *ℤ v *ℤ (j *ℤ w)
  four k j v w = *ℤ-assoc k j (v *ℤ w) ∙ ap (λ (z : ℤ). k *ℤ z) (*ℤ-left j v w) ∙ sym (*ℤ-assoc k v (j *ℤ w))

  zero-r : (x : ℤ) → x *ℤ pos 0 ≡ pos 0
  zero-r x = *ℤ_comm x (pos 0) ∙ zero-*ℤ x

  mul_t-is : (k : ℤ) (vs : List ℕ) (p : Poly) → val (mul_t k vs p) ≡ k *ℤ val_v vs *ℤ val p
  mul_t-is k vs nil = sym (zero-r (k *ℤ val_v vs))
  mul_t-is k vs (term j ws p) =
      add_t-is (k *ℤ j) (mul_v vs ws) (mul_t k vs p)
      ∙ (λ i. k *ℤ j *ℤ mul_v-is vs ws i +ℤ mul_t-is k vs p i)
      ∙ ap (λ (z : ℤ). z +ℤ k *ℤ val_v vs *ℤ val p) (four k j (val_v vs) (val_v ws))
      ∙ sym (*ℤ-distribˡ (k *ℤ val_v vs) (j *ℤ val_v ws) (val p))

  mul_p-is : (p q : Poly) → val (mul_p p q) ≡ val p *ℤ val q
  mul_p-is nil q = sym (zero-*ℤ (val q))
  mul_p-is (term k vs p) q =
      add_p-is (mul_t k vs q) (mul_p p q) ∙ (λ i. mul_t-is k vs q i +ℤ mul_p-is p q i) ∙ sym (*ℤ-distribʳ (k *ℤ val_v vs) (val p) (val q))

  minus : (p : Poly) → val (mul_t (negsuc 0) [] p) ≡ neg_ℤ (val p)
  minus p = mul_t-is (negsuc 0) [] p ∙ neg-*ℤ (pos 1) (val p) ∙ ap neg_ℤ (one-*ℤ (val p))

  norm-is : (e : Expr) → val (norm e) ≡ eval ρ e
  norm-is (var v) =
      let x = get_or ρ v (pos 0) in
      +ℤ_idr (pos 1 *ℤ (x *ℤ pos 1)) ∙ one-*ℤ (x *ℤ pos 1) ∙ *ℤ_comm x (pos 1) ∙ one-*ℤ x
  norm-is (con k) = put_is k [] nil ∙ +ℤ_idr (k *ℤ pos 1) ∙ *ℤ_comm k (pos 1) ∙ one-*ℤ k
  norm-is (a ⊕ b) = add_p-is (norm a) (norm b) ∙ (λ i. norm-is a i +ℤ norm-is b i)
  norm-is (a ⊖ b) = add_p-is (norm a) (mul_t (negsuc 0) [] (norm b)) ∙ (λ i. norm-is a i +ℤ minus (norm b) i) ∙ ap (λ (z : ℤ). eval ρ a -ℤ z) (norm-is b)
  norm-is (a ⊗ b) = mul_p-is (norm a) (norm b) ∙ (λ i. norm-is a i *ℤ norm-is b i)
  norm-is (neg a) = minus (norm a) ∙ ap neg_ℤ (norm-is a)

  pub solve : (e f : Expr) → norm e ≡ norm f → eval ρ e ≡ eval ρ f
  solve e f p = sym (norm-is e) ∙ ap val p ∙ norm-is f

-- ---- tried
abbrev x0 : Expr
x0 = var 0

abbrev x1 : Expr
x1 = var 1

square_of_difference : (a b : ℤ) → (a -ℤ b) *ℤ (a -ℤ b) ≡ a *ℤ a +ℤ b *ℤ b -ℤ pos 2 *ℤ (a *ℤ b)
square_of_difference a b = solve (a ∷ b ∷ []) ((x0 ⊖ x1) ⊗ (x0 ⊖ x1)) (x0 ⊗ x0 ⊕ x1 ⊗ x1 ⊖ con (pos 2) ⊗ (x0 ⊗ x1)) refl
