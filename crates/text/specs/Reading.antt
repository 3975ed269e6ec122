-- Laws of numbers that are read digit by digit.
use Rattle.std.specs.Prelude.{◌≡◌, refl, List, [], ◌∷◌, ℕ, ◌+◌, ◌-◌, ◌*◌, ◌≤◌, ◌<◌, pos, neg_ℤ, length, get_or, take, drop, true, false, nat_eq, eqb, Option, Some, None, option_map}
use Rattle.std.proofs.Common.{sym, ap, ◌∙◌, add-one, arith, drop-cons, ne_eqb, eq-eqb, eqb-true}
use Rattle.std.proofs.lemmas.Bool.{false≢true}
use Rattle.std.specs.Cmp.Lexicographic.{pointwise}
use Rattle.std.proofs.lemmas.Bool.{le-leb}
use Rattle.std.proofs.Math.Seq.{drop-length}
use Rattle.std.proofs.lemmas.Option.{none-some}
use Rattle.whole.specs.Tests.{and_left}
use Rattle.text.specs.Text.{one_more, more_digits, number, sample}

-- one digit more
pub one_digit : (most v b : ℕ) → 48 ≤ b → b ≤ 57 → 10 * v + (b - 48) ≤ most → one_more most v b ≡ Some (10 * v + (b - 48))
unfolding one_more
one_digit most v b l h m = rw (le-leb 48 b l, le-leb b 57 h, le-leb (10 * v + (b - 48)) most m)

-- the digits of a field
none_stays : (most : ℕ) (bs : List ℕ) → more_digits most bs None ≡ None
unfolding more_digits
none_stays most [] = refl
none_stays most (b ∷ bs) = none_stays most bs

module _ (most : ℕ) (f : List ℕ) (i v : ℕ) (h : i < length f) where
  next_digit : more_digits most (drop i f) (Some v) ≡ more_digits most (drop (i + 1) f) (one_more most v (get_or f i 0))
  unfolding more_digits
  next_digit = ap (λ (l : List ℕ). more_digits most l (Some v)) (drop-cons f i 0 h) ∙ ap (λ (n : ℕ). more_digits most (drop n f) (one_more most v (get_or f i 0))) (sym (add-one i))

  pub digit_read : (n : ℕ) → Some n ≡ one_more most v (get_or f i 0) → more_digits most (drop (i + 1) f) (Some n) ≡ more_digits most (drop i f) (Some v)
  digit_read n e = ap (more_digits most (drop (i + 1) f)) e ∙ sym next_digit

  pub no_digit : None ≡ one_more most v (get_or f i 0) → more_digits most (drop i f) (Some v) ≡ None
  no_digit e = next_digit ∙ ap (more_digits most (drop (i + 1) f)) (sym e) ∙ none_stays most (drop (i + 1) f)

module _ (most : ℕ) where
  pub number_digits : (f : List ℕ) → 0 < length f → number most f ≡ more_digits most f (Some 0)
  unfolding number
  number_digits [] h = absurd (omega arith)
  number_digits (b ∷ bs) h = refl

  pub number_empty : (f : List ℕ) → length f ≡ 0 → number most f ≡ None
  unfolding number
  number_empty [] h = refl
  number_empty (b ∷ bs) h = absurd (omega arith)

  pub digits-end : (f : List ℕ) (i v : ℕ) → i ≡ length f → more_digits most (drop i f) (Some v) ≡ Some v
  unfolding more_digits
  digits-end f i v e = ap (λ (l : List ℕ). more_digits most l (Some v)) (ap (λ (n : ℕ). drop n f) e ∙ drop-length f)

-- a sample without a minus
pub plain-sample : (f : List ℕ) → 0 < length f → (get_or f 0 0 ≡ 45 → ⊥) → sample f ≡ option_map (λ (n : ℕ). pos n) (number 32767 f)
unfolding sample
plain-sample [] h m = absurd (omega arith)
plain-sample (b ∷ bs) h m = rw (ne_eqb b 45 m)

-- by the test for a minus
pub minus-sample : (f : List ℕ) → pointwise nat_eq (take 1 f) (45 ∷ []) ≡ true → sample f ≡ option_map (λ (n : ℕ). neg_ℤ (pos n)) (number 32768 (drop 1 f))
unfolding sample
minus-sample [] e = absurd (false≢true e)
minus-sample (b ∷ bs) e = rw (eq-eqb b 45 (eqb-true b 45 (and_left (eqb b 45) true e)))

pub without_minus : (f : List ℕ) → pointwise nat_eq (take 1 f) (45 ∷ []) ≡ false → sample f ≡ option_map (λ (n : ℕ). pos n) (number 32767 f)
unfolding sample number
without_minus [] e = refl
without_minus (b ∷ bs) e = plain-sample (b ∷ bs) (omega arith) (λ m. false≢true (sym e ∙ rw (eq-eqb b 45 m)))

-- nothing is read from an empty field
pub no_number : (most : ℕ) → number most [] ≡ None
no_number most = number_empty most [] refl

pub no_sample : sample [] ≡ None
unfolding sample
no_sample = refl

-- where nothing is read from an empty field, a field that something was read from is not empty
pub field-long : {A : Type 0} (how : List ℕ → Option A) → how [] ≡ None → (f : List ℕ) (x : A) → Some x ≡ how f → 0 < length f
field-long how z [] x e = absurd (none-some x (sym (e ∙ z)))
field-long how z (b ∷ bs) x e = omega arith
