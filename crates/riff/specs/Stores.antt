-- Laws of a run of stores: another behind it, its length, what stands inside and outside it, and one that stores what stands there.
use Rattle.std.specs.Prelude.{◌≡◌, refl, ◌⊎◌, List, [], ◌∷◌, ◌++◌, ℕ, zero, suc, ◌+◌, ◌≤◌, ◌<◌, length, get_or, take, drop, set}
use Rattle.std.proofs.Common.{sym, ap, ◌∙◌, inl, inr, ⊎_elim, arith, length-set, get_or-set_same, get_or-set_other, take_all}
use Rattle.std.proofs.lemmas.List.{set-get_or}
use Rattle.std.proofs.lemmas.List.Edits.{sets, sets-eq}
use Rattle.std.proofs.lemmas.Slice.{put_mid-paste}
use Rattle.std.proofs.Math.Seq.{length-sets}
use borrow.Rule.Slice.PartMut.{put_mid}

-- k elements from j on lie before n elements from i on, or behind them
abbrev pub Outside : (i n j k : ℕ) → Type 0
Outside i n j k = (j + k ≤ i) ⊎ (i + n ≤ j)

module _ {A : Type 0} where
  -- a run of stores, and another behind it
  pub sets_more : (l : List A) (i : ℕ) (vs us : List A) → sets (sets l i vs) (i + length vs) us ≡ sets l i (vs ++ us)
  sets_more l i [] us = let e : i + 0 ≡ i = omega arith in ap (λ (n : ℕ). sets l n us) e
  sets_more l i (v ∷ vs) us = let e : i + suc (length vs) ≡ suc i + length vs = omega arith in ap (λ (n : ℕ). sets (sets (set l i v) (suc i) vs) n us) e ∙ sets_more (set l i v) (suc i) vs us

  pub stored_then : (l : List A) {l' l'' : List A} (at n : ℕ) (vs us : List A) → length vs ≡ n → l' ≡ sets l at vs → l'' ≡ sets l' (at + n) us → l'' ≡ sets l at (vs ++ us)
  stored_then l at n vs us e p q = q ∙ (λ i. sets (p i) (at + sym e i) us) ∙ sets_more l at vs us

  pub stored-length : (l : List A) {l' : List A} (at : ℕ) (vs : List A) → l' ≡ sets l at vs → length l' ≡ length l
  stored-length l at vs p = ap length p ∙ length-sets l at vs

  -- a part that was overwritten, as std has it
  pub stored-part : (l : List A) {ys : List A} (at k : ℕ) (vs : List A) → ys ≡ vs → length vs ≡ k → at + k ≤ length l → put_mid at k l ys ≡ sets l at vs
  stored-part l {ys} at k vs e n h =
      put_mid-paste at k l ys vs k e refl (sym n)
      ∙ ap (λ (m : List A). take at l ++ m ++ drop (at + k) l) (take_all k vs (omega arith))
      ∙ ap (λ (m : ℕ). take at l ++ vs ++ drop (at + m) l) (sym n)
      ∙ sym (sets-eq vs l at (omega arith))

  -- at the front
  pub sets-front : (l vs : List A) → length vs ≤ length l → sets l 0 vs ≡ vs ++ drop (length vs) l
  sets-front l vs h = let e : 0 + length vs ≡ length vs = omega arith in sets-eq vs l 0 (omega arith) ∙ ap (λ (n : ℕ). vs ++ drop n l) e

  -- what stands outside, and inside
  pub outside_stays : (l : List A) (i : ℕ) (vs : List A) (j : ℕ) (d : A) → Outside i (length vs) j 1 → get_or (sets l i vs) j d ≡ get_or l j d
  outside_stays l i [] j d o = refl
  outside_stays l i (v ∷ vs) j d o =
      outside_stays (set l i v) (suc i) vs j d (⊎_elim (λ h. inl (omega arith)) (λ h. inr (omega arith)) o)
      ∙ get_or-set_other l i j v d (λ e. ⊎_elim (λ h. omega (arith, e, h)) (λ h. omega (arith, e, h)) o)

  pub inside-stored : (l : List A) (i : ℕ) (vs : List A) (k : ℕ) (d : A) → i + length vs ≤ length l → k < length vs → get_or (sets l i vs) (i + k) d ≡ get_or vs k d
  inside-stored l i [] k d h s = absurd (omega arith)
  inside-stored l i (v ∷ vs) zero d h s =
      let e : i + 0 ≡ i = omega arith in
      outside_stays (set l i v) (suc i) vs (i + 0) d (inl (omega arith)) ∙ ap (λ (n : ℕ). get_or (set l i v) n d) e ∙ get_or-set_same l i v d (omega arith)
  inside-stored l i (v ∷ vs) (suc k) d h s =
      let e : i + suc k ≡ suc i + k = omega arith in
      ap (λ (n : ℕ). get_or (sets (set l i v) (suc i) vs) n d) e ∙ inside-stored (set l i v) (suc i) vs k d (omega (arith, length-set l i v)) (omega arith)

  -- what stands there already
  pub stored-again : (l : List A) (i : ℕ) (vs : List A) (d : A) → ((k : ℕ) → k < length vs → get_or l (i + k) d ≡ get_or vs k d) → sets l i vs ≡ l
  stored-again l i [] d h = refl
  stored-again l i (v ∷ vs) d h =
      let z : i ≡ i + 0 = omega arith in
      let e = ap (set l i) (sym (ap (λ (n : ℕ). get_or l n d) z ∙ h 0 (omega arith))) ∙ set-get_or l i d in
      ap (λ (m : List A). sets m (suc i) vs) e
      ∙ stored-again l (suc i) vs d (λ k s. let f : suc i + k ≡ i + suc k = omega arith in ap (λ (n : ℕ). get_or l n d) f ∙ h (suc k) (omega arith))
