-- A field ends at the first tab, and the fields after it begin there.
use Rattle.std.specs.Prelude.{◌≡◌, refl, List, [], ◌∷◌, ℕ, zero, suc, ◌+◌, ◌≤◌, ◌<◌, eqb, length, get_or, take, drop, Some, None}
use Rattle.std.proofs.Common.{ap, arith, eq-eqb, ne_eqb, add-one, take_all, ◌∙◌, sym}
use Rattle.whole.specs.Tests.{cond_case}
use Rattle.text.specs.Text.{onto, fields}
use Rattle.text.specs.declared.Fields.{Fields}
use Rattle.text.specs.Places.{First}

-- the fields that are left
abbrev pub left : Fields → List (List ℕ)
left f = elim f.rest [ None ↦ [] | Some rest ↦ fields rest.now ]

-- how many bytes fields take, each with the tab or the end after it
unfoldable pub room_of : List (List ℕ) → ℕ
room_of [] = 0
room_of (f ∷ fs) = length f + 1 + room_of fs

pub room-of-line : (xs : List ℕ) → room_of (fields xs) ≡ length xs + 1
unfolding room_of fields onto
room-of-line [] = refl
room-of-line (b ∷ bs) =
    cond_case (eqb b 9) ([] ∷ fields bs) (onto b (fields bs)) (λ (l : List (List ℕ)). room_of l ≡ suc (length bs) + 1) (λ e. omega (arith, room-of-line bs)) (λ e. grown (fields bs) (room-of-line bs))
  where
    grown : (fs : List (List ℕ)) → room_of fs ≡ length bs + 1 → room_of (onto b fs) ≡ suc (length bs) + 1
    grown [] e = absurd (omega (arith, e))
    grown (f ∷ fs) e = omega (arith, e)

-- without the first field they take less
pub room_of_others : {fs more : List (List ℕ)} {f : List ℕ} → fs ≡ f ∷ more → room_of more < room_of fs
unfolding room_of
room_of_others {f = f} e = omega (arith, ap room_of e)

-- no tab in these bytes
abbrev pub NoTab : List ℕ → Type 0
NoTab bs = (k : ℕ) → k < length bs → get_or bs k 0 ≡ 9 → ⊥

-- without a tab there is one field
pub one_field : (f : List ℕ) → NoTab f → fields f ≡ f ∷ []
unfolding fields onto
one_field [] n = refl
one_field (b ∷ f) n = rw (ne_eqb b 9 (n 0 (omega arith)), one_field f (λ k h. n (suc k) (omega arith)))

-- the first field ends at the first tab, and where there is none it is the whole line
split : (n : ℕ) (xs : List ℕ) → n < length xs → ((k : ℕ) → k < n → get_or xs k 0 ≡ 9 → ⊥) → get_or xs n 0 ≡ 9 → fields xs ≡ take n xs ∷ fields (drop (suc n) xs)
unfolding fields onto
split n [] h f e = absurd (omega arith)
split zero (b ∷ bs) h f e = rw (eq-eqb b 9 e)
split (suc n) (b ∷ bs) h f e = rw (ne_eqb b 9 (f 0 (omega arith))) (ap (onto b) (split n bs (omega arith) (λ k l. f (suc k) (omega arith)) e))

pub first_field : {xs : List ℕ} {n : ℕ} → First xs 0 9 n → n < length xs → fields xs ≡ take n xs ∷ fields (drop (n + 1) xs)
first_field {xs} {n} f h = split n xs h (λ k l. f.none_before k (omega arith) l) (f.stands h) ∙ ap (λ (m : ℕ). take n xs ∷ fields (drop m xs)) (sym (add-one n))

pub only_field : {xs : List ℕ} {n : ℕ} → First xs 0 9 n → length xs ≤ n → fields xs ≡ take n xs ∷ []
only_field {xs} {n} f h = one_field xs (λ k l. f.none_before k (omega arith) (omega (arith, f.within))) ∙ ap (λ (l : List ℕ). l ∷ []) (sym (take_all n xs h))

-- before the end there is a field
pub fields-some : (xs : List ℕ) → 0 < length (fields xs)
unfolding fields onto
fields-some [] = omega arith
fields-some (b ∷ bs) = cond_case (eqb b 9) ([] ∷ fields bs) (onto b (fields bs)) (λ (l : List (List ℕ)). 0 < length l) (λ e. omega arith) (λ e. grown (fields bs))
  where
    grown : (fs : List (List ℕ)) → 0 < length (onto b fs)
    grown [] = omega arith
    grown (f ∷ fs) = omega arith
