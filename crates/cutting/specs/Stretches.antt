-- The place and the length of the k-th stretch make its part.
use Rattle.std.specs.Prelude.{◌≡◌, List, ◌⊎◌, ℕ, ◌-◌, ◌*◌, ◌≤◌, min, leb, ℤ, length, take, drop}
use Rattle.std.proofs.Common.{sym, ap, ◌∙◌, inl, inr, ⊎_elim, arith, leb-true, leb-false, length-drop, drop_of_length-le, take_all}
use Rattle.std.proofs.Math.Nat.{min-eq_left, min-eq_right}
use Rattle.rules.specs.Rules.{longest_block}
use Rattle.whole.specs.Tests.{by}
use Rattle.cutting.specs.declared.Stretch.{Stretch}
use Rattle.cutting.specs.Cuts.{Cut}

either : (a b : ℕ) → (a ≤ b) ⊎ (b ≤ a)
either a b = by (leb a b) (λ e. inl (leb-true a b e)) (λ e. let h = leb-false a b e in inr (omega arith))

module _ (n k : ℕ) (p : Stretch) (e : p.from ≡ min (longest_block * k) n) (f : p.count ≡ min longest_block (n - p.from)) where
  same_rest : (xs : List ℤ) → length xs ≡ n → drop p.from xs ≡ drop (longest_block * k) xs
  same_rest xs l =
      ⊎_elim
      (λ h. ap (λ (m : ℕ). drop m xs) (e ∙ min-eq_left h))
      (λ h. drop_of_length-le xs {i = p.from} (omega (arith, min-eq_right h)) ∙ sym (drop_of_length-le xs {i = longest_block * k} (omega arith)))
      (either (longest_block * k) n)

  same-part : (xs : List ℤ) → length xs ≡ n → take p.count (drop p.from xs) ≡ take longest_block (drop p.from xs)
  same-part xs l =
      let d = length-drop p.from xs in
      ⊎_elim
      (λ h. ap (λ (m : ℕ). take m (drop p.from xs)) (f ∙ min-eq_left h))
      (λ h. take_all p.count (drop p.from xs) (omega (arith, min-eq_right h)) ∙ sym (take_all longest_block (drop p.from xs) (omega arith)))
      (either longest_block (n - p.from))

  left_over : n - p.from ≡ n - longest_block * k
  left_over = ⊎_elim (λ h. ap (λ (m : ℕ). n - m) (e ∙ min-eq_left h)) (λ h. omega (arith, min-eq_right h)) (either (longest_block * k) n)

  pub cut_is : Cut n k p
  cut_is = record { from = e; count = f ∙ ap (min longest_block) left_over; part = λ xs l. same-part xs l ∙ ap (take longest_block) (same_rest xs l) }
