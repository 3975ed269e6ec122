-- `lines::say_block` meets its contract: each part is put after those before it.
use Rattle.std.proofs.Common.{ℕ, ◌∷◌, take, length-take-le, subst, arith}
use Rattle.text.specs.Text.{decimal, sample_fields, Put}
use Rattle.text.specs.Places.{put_then, put-end}
use Rattle.lines.proofs.say_block.Goals as goal

pub returns : goal.returns
returns c =
    let p₁ = c.put-at.ensures.put in
    let p₂ = subst (λ (n : ℕ). Put c.put-at.new.out c.put-at.result (9 ∷ decimal n) c.put_field-at.new.out c.put_field-at.result) c.from.ensures c.put_field-at.ensures.put in
    let p₃ = subst (λ (n : ℕ). Put c.put_field-at.new.out c.put_field-at.result (9 ∷ decimal n) c.put_field-at-2.new.out c.put_field-at-2.result) c.from-2.ensures c.put_field-at-2.ensures.put in
    let p₄ = subst (λ (n : ℕ). Put c.put_field-at-2.new.out c.put_field-at-2.result (9 ∷ decimal n) c.put_field-at-3.new.out c.put_field-at-3.result) c.from-3.ensures c.put_field-at-3.ensures.put in
    let p₅ = subst (λ (n : ℕ). Put c.put_field-at-3.new.out c.put_field-at-3.result (sample_fields (take n c.args.ys.now)) c.put_samples-at.new.out c.put_samples-at.result) c.from-4.ensures c.put_samples-at.ensures.put in
    let d₂ = put_then p₁ p₂ (omega (arith, p₁.next)) in
    let d₃ = put_then d₂ p₃ (omega (arith, d₂.next)) in
    let d₄ = put_then d₃ p₄ (omega (arith, d₃.next)) in
    let d₅ = put_then d₄ p₅ (omega (arith, d₄.next)) in
    put-end 10 d₅ (omega (arith, d₅.next, c.put_samples-at.ensures.within, c.requires.0, c.requires.1, c.requires.2, length-take-le c.from-4.result c.args.ys.now (omega (arith, c.requires.1, c.requires.2, c.from-4.ensures)), c.from-4.ensures, c.put-at.auto.out, c.put_field-at.auto.out, c.put_field-at-2.auto.out, c.put_field-at-3.auto.out, c.put_samples-at.auto.out))
