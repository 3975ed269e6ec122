-- No second answer: the promise of a line determines the tuner and the store after it, the answer and every byte of the output.
use Rattle.std.specs.Prelude.{◌≡◌, refl, List, [], ℕ, length, get_or}
use Rattle.std.proofs.Common.{sym, ap, ◌∙◌, arith}
use Rattle.tuner.specs.declared.Tuner.{Tuner}
use Rattle.tuner.specs.declared.Answer.{Answer}
use Rattle.tuner.proofs.Starts.{started_one, done-one}
use Rattle.tuner.proofs.Verdicts.{took_one}
use Rattle.text.specs.Text.{put}
use Rattle.lines.specs.Lines.{Line, Desk, desk, numbered, number_line, block_line, Said, begun, not_begun, changed, taken, begun-again, mode-changed, channel-changed, keyed, not_read, Answered, answered, no_room}

abbrev Same : (d₁ d₂ : Desk) → (x₁ x₂ : List ℕ) → (a₁ a₂ : Answer) → Type 0
Same d₁ d₂ x₁ x₂ a₁ a₂ = (d₁ ≡ d₂) × (x₁ ≡ x₂) × (a₁ ≡ a₂)

-- by the number, and a tuner beside the same store
same_number : {t₁ t₂ : Tuner} {v₁ v₂ : ℕ} {store : List ℕ} → (t₁ ≡ t₂) × (v₁ ≡ v₂) → Same (desk t₁ store) (desk t₂ store) (number_line v₁) (number_line v₂) (numbered v₁) (numbered v₂)
same_number {store = store} o = (ap (λ (t : Tuner). desk t store) o.0, ap number_line o.1, ap numbered o.1)

module _ {d : Desk} where
  pub said-one : {l : Line} {d₁ d₂ : Desk} {x₁ x₂ : List ℕ} {a₁ a₂ : Answer} → Said d l d₁ x₁ a₁ → Said d l d₂ x₂ a₂ → Same d₁ d₂ x₁ x₂ a₁ a₂
  said-one (begun p e) (begun q f) = same_number (started_one p q)
  said-one (begun p e) (not_begun q f) = absurd (f (sym (started_one p q).1 ∙ e))
  said-one (not_begun p e) (begun q f) = absurd (e ((started_one p q).1 ∙ f))
  said-one (not_begun p e) (not_begun q f) = let v = (started_one p q).1 in (refl, ap number_line v, ap numbered v)
  said-one (changed p) (changed q) = same_number (done-one p q)
  said-one (taken p) (taken q) =
      let o = took_one p q in
      (λ i. desk (o.0 i) (o.3 i), λ i. block_line (o.1 i) (get_or (o.2 i) 0 []), o.1)
  said-one (begun-again p) (begun-again q) = same_number (done-one p q)
  said-one (mode-changed p) (mode-changed q) = same_number (done-one p q)
  said-one (channel-changed p) (channel-changed q) = same_number (done-one p q)
  said-one (keyed p) (keyed q) = same_number (done-one p q)
  said-one not_read not_read = (refl, refl, refl)

  pub answered-one : {line out : List ℕ} {d₁ d₂ : Desk} {a₁ a₂ : Answer} {n₁ n₂ : ℕ} {o₁ o₂ : List ℕ} → Answered d line out d₁ a₁ n₁ o₁ → Answered d line out d₂ a₂ n₂ o₂ → (d₁ ≡ d₂) × (a₁ ≡ a₂) × (n₁ ≡ n₂) × (o₁ ≡ o₂)
  answered-one {out = out} (answered r s p) (answered r' s' p') =
      let o = said-one s s' in
      (o.0, o.2, omega (arith, p.next, p'.next, ap length o.1), p.text ∙ ap (put out 0) o.1 ∙ sym p'.text)
  answered-one (answered r s p) (no_room r' e a n o) = absurd (omega arith)
  answered-one (no_room r e a n o) (answered r' s p) = absurd (omega arith)
  answered-one (no_room r e a n o) (no_room r' e' a' n' o') = (e ∙ sym e', a ∙ sym a', n ∙ sym n', o ∙ sym o')
