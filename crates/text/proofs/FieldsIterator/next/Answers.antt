-- `Fields::next` meets its contract: the field before the first tab, and what stands after the tab.
use Rattle.std.proofs.Common.{◌≡◌, ℕ, ◌+◌, ◌≤◌, ◌<◌, List, ◌∷◌, Option, Some, None, Bor, length, take, drop, take_all, length-drop, ◌⊎◌, inl, inr, arith, rules, sym, ap, ◌∙◌}
use Rattle.std.specs.Prelude.{MatchOption, slice_range}
use Rattle.text.specs.Text.{fields}
use Rattle.text.specs.Places.{First}
use Rattle.text.specs.Fields.{left, first_field, only_field}
use Rattle.text.proofs.FieldsIterator.next.Goals as goal

next_left : (xs : List ℕ) (n : ℕ) (o : Option (Bor (List ℕ))) → First xs 0 9 n
    → MatchOption o ((length xs < n + 1) ⊎ (length xs < length xs)) (λ x. (n + 1 ≤ length xs) × (length xs ≤ length xs) × (x.now ≡ slice_range xs (n + 1) (length xs)) × (length x.now + (n + 1) ≡ length xs))
    → fields xs ≡ take n xs ∷ left (record { rest = o })
next_left xs n None f h = only_field f (elim h [ inl l ↦ omega arith | inr l ↦ absurd (omega arith) ])
next_left xs n (Some x) f h = first_field f (omega arith) ∙ ap (λ (l : List ℕ). take n xs ∷ fields l) (sym (h.2 ∙ take_all _ (drop (n + 1) xs) (omega (arith, length-drop (n + 1) xs))))

pub returns-clause-steps : goal.returns-clause-steps
returns-clause-steps c = ap (λ (o : Option (Bor (List ℕ))). left (record { rest = o })) c.in_ok-rest.was ∙ next_left c.in_ok-rest.rest.now c.first-end.result c.get-self.result c.first-end.ensures c.get-self.ensures.lookup.0

pub returns-clause-goes : goal.returns-clause-goes
returns-clause-goes c = let e = ap length (returns-clause-steps c) in search rules
