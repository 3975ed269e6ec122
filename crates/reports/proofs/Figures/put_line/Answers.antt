-- `Figures::put_line` meets its contract: each field is put after those before it.
use Rattle.std.proofs.Common.{ℕ, ◌∷◌, subst, arith}
use Rattle.text.specs.Text.{long_decimal, Put}
use Rattle.text.specs.Places.{put_then, put-end}
use Rattle.reports.specs.Reports.{figures_line}
use Rattle.reports.proofs.Figures.put_line.Goals as goal

pub returns-clause-put : goal.returns-clause-put
unfolding figures_line
returns-clause-put c =
    let p₁ = c.put-at.ensures in
    let p₂ = c.put_field-at.ensures in
    let p₃ = c.put_field-at-2.ensures in
    let p₄ = c.put_field-at-3.ensures in
    let p₅ = c.put_field-at-4.ensures in
    let p₆ = c.put_field-at-5.ensures in
    let p₇ = c.put_field-at-6.ensures in
    let d₂ = put_then p₁.put p₂.put (omega (arith, p₁.put.next)) in
    let d₃ = put_then d₂ p₃.put (omega (arith, d₂.next)) in
    let d₄ = put_then d₃ p₄.put (omega (arith, d₃.next)) in
    let d₅ = put_then d₄ p₅.put (omega (arith, d₄.next)) in
    let d₆ = put_then d₅ (subst (λ (n : ℕ). Put c.put_field-at-4.new.out c.put_field-at-4.result (9 ∷ long_decimal n) c.put_field-at-5.new.out c.put_field-at-5.result) c.mean.ensures p₆.put) (omega (arith, d₅.next)) in
    let d₇ = put_then d₆ (subst (λ (n : ℕ). Put c.put_field-at-5.new.out c.put_field-at-5.result (9 ∷ long_decimal n) c.put_field-at-6.new.out c.put_field-at-6.result) c.remainder.ensures p₇.put) (omega (arith, d₆.next)) in
    put-end 10 d₇ (omega (arith, d₇.next, c.put_field-at-6.auto.out, c.put_field-at-5.auto.out, c.put_field-at-4.auto.out, c.put_field-at-3.auto.out, c.put_field-at-2.auto.out, c.put_field-at.auto.out, c.put-at.auto.out))
