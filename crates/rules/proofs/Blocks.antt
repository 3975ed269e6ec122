-- A block is the fold of one sample's step: so how samples are cut into blocks does not matter.
use Rattle.std.specs.Prelude.{◌≡◌, ℤ, length}
use Rattle.std.proofs.Math.Path.{refl, sym, ap}
use Rattle.std.proofs.Common.{◌∙◌, add-suc, add-zero, length-append}
use mathlib.Core.List.{List, [], ◌∷◌, ◌++◌, append_assoc}
use Prim.Native.Nat.{ℕ, suc, ◌+◌}
use Rattle.std.proofs.Math.Nat.{suc-add}
use Rattle.rules.specs.declared.InForce.{InForce}
use Rattle.rules.specs.Rules.{Take, Given, heard_all, stepped, after, gives, samples_out, gathered}

-- ---- samples, and more samples after them
module _ (f : InForce) where
  pub after-append : (t : Take) (xs ys : List ℤ) → after f t (xs ++ ys) ≡ after f (after f t xs) ys
  unfolding after
  after-append t [] ys = refl
  after-append t (x ∷ xs) ys = after-append (stepped f t x).next xs ys

  pub gives-append : (t : Take) (xs ys : List ℤ) → gives f t (xs ++ ys) ≡ gives f t xs ++ gives f (after f t xs) ys
  unfolding after gives
  gives-append t [] ys = refl
  gives-append t (x ∷ xs) ys = ap (λ (gs : List Given). (stepped f t x).given ∷ gs) (gives-append (stepped f t x).next xs ys)

  -- one sample more
  pub after_more : (t : Take) (xs : List ℤ) (x : ℤ) → after f t (xs ++ (x ∷ [])) ≡ (stepped f (after f t xs) x).next
  unfolding after
  after_more t xs x = after-append t xs (x ∷ [])

  pub gives_more : (t : Take) (xs : List ℤ) (x : ℤ) → gives f t (xs ++ (x ∷ [])) ≡ gives f t xs ++ ((stepped f (after f t xs) x).given ∷ [])
  unfolding gives
  gives_more t xs x = gives-append t xs (x ∷ [])

  -- the count grows by each sample, and each is heard
  pub after-count : (t : Take) (xs : List ℤ) → (after f t xs).count ≡ t.count + length xs
  unfolding after stepped
  after-count t [] = sym (add-zero t.count)
  after-count t (x ∷ xs) = after-count (stepped f t x).next xs ∙ suc-add t.count (length xs) ∙ sym (add-suc t.count (length xs))

  pub after-sound : (t : Take) (xs : List ℤ) → (after f t xs).sound ≡ heard_all t.sound xs
  unfolding after stepped heard_all
  after-sound t [] = refl
  after-sound t (x ∷ xs) = after-sound (stepped f t x).next xs

  -- a sample out for each sample in
  pub gives-length : (t : Take) (xs : List ℤ) → length (samples_out (gives f t xs)) ≡ length xs
  unfolding gives samples_out
  gives-length t [] = refl
  gives-length t (x ∷ xs) = ap suc (gives-length (stepped f t x).next xs)

  pub given-length : (t : Take) (xs : List ℤ) → length (gives f t xs) ≡ length xs
  unfolding gives
  given-length t [] = refl
  given-length t (x ∷ xs) = ap suc (given-length (stepped f t x).next xs)

-- ---- what is given, and more after it
pub samples_out-append : (gs hs : List Given) → samples_out (gs ++ hs) ≡ samples_out gs ++ samples_out hs
unfolding samples_out
samples_out-append [] hs = refl
samples_out-append (g ∷ gs) hs = ap (λ (xs : List ℤ). g.out ∷ xs) (samples_out-append gs hs)

pub gathered-append : (part : Given → List ℕ) (gs hs : List Given) → gathered part (gs ++ hs) ≡ gathered part gs ++ gathered part hs
unfolding gathered
gathered-append part [] hs = refl
gathered-append part (g ∷ gs) hs =
    ap (λ (ps : List ℕ). part g ++ ps) (gathered-append part gs hs) ∙ sym (append_assoc (part g) (gathered part gs) (gathered part hs))

-- how many after one sample more
pub gathered-more : (part : Given → List ℕ) (gs : List Given) (g : Given) → length (gathered part (gs ++ (g ∷ []))) ≡ length (gathered part gs) + length (part g)
unfolding gathered
gathered-more part gs g =
    ap length (gathered-append part gs (g ∷ [])) ∙ length-append (gathered part gs) (part g ++ [])
    ∙ ap (λ (n : ℕ). length (gathered part gs) + n) (length-append (part g) [] ∙ add-zero (length (part g)))
