-- The list f 0, .., f (n - 1), and that a list with these elements is it.
use Rattle.std.specs.Prelude.{◌≡◌, length, get_or}
use Rattle.std.proofs.Math.Path.{refl, ap}
use Rattle.std.proofs.Common.{sym, ◌∙◌, arith, ext_get_or}
use mathlib.Core.List.{List, [], ◌∷◌, ◌++◌}
use Prim.Native.Nat.{ℕ, zero, suc, ◌<◌}
use Rattle.whole.specs.Numbers.{list_of}

module _ {A : Type 0} where
  pub length-list_of : (f : ℕ → A) (n : ℕ) → length (list_of f n) ≡ n
  unfolding list_of
  length-list_of f zero = refl
  length-list_of f (suc n) = ap suc (length-list_of (λ (k : ℕ). f (suc k)) n)

  pub get_or-list_of : (f : ℕ → A) (n k : ℕ) (d : A) → k < n → get_or (list_of f n) k d ≡ f k
  unfolding list_of
  get_or-list_of f zero k d h = absurd (omega arith)
  get_or-list_of f (suc n) zero d h = refl
  get_or-list_of f (suc n) (suc k) d h = get_or-list_of (λ (j : ℕ). f (suc j)) n k d (omega arith)

  pub is-list_of : (f : ℕ → A) (n : ℕ) (d : A) (l : List A) → length l ≡ n → ((k : ℕ) → k < n → get_or l k d ≡ f k) → l ≡ list_of f n
  is-list_of f n d l e p =
      ext_get_or d l (list_of f n) (e ∙ sym (length-list_of f n)) (λ k h. p k (omega arith) ∙ sym (get_or-list_of f n k d (omega arith)))

  -- one element more
  pub list_of-more : (f : ℕ → A) (n : ℕ) → list_of f (suc n) ≡ list_of f n ++ (f n ∷ [])
  unfolding list_of
  list_of-more f zero = refl
  list_of-more f (suc n) = ap (λ (l : List A). f 0 ∷ l) (list_of-more (λ (k : ℕ). f (suc k)) n)
