-- A minus goes before the size of a sample below 0.
use Rattle.std.proofs.Common.{List, ℕ, ◌∷◌, nat_abs, w16, arith, sym, ap, subst, ◌∙◌}
use mir.Facts.{to_z-of_z}
use Rattle.whole.specs.Words.{arg, lit, lt_yes, lt_no}
use Rattle.text.specs.Text.{decimal, Put}
use Rattle.text.specs.Places.{put_byte}
use Rattle.text.specs.Signs.{signed_below, signed_above}
use Rattle.text.proofs.I16Decimal.put.Goals as goal

pub returns-then-self-lt0-clause-put : goal.returns-then-self-lt0-clause-put
returns-then-self-lt0-clause-put c =
    let a = c.args in
    let size = c.from-size.ensures ∙ c.unsigned_abs.ensures.value ∙ ap nat_abs (to_z-of_z c.ranges.self) in
    let t = ap (λ (n : ℕ). 45 ∷ decimal n) size ∙ sym (signed_below a.self (lt_yes (arg c.ranges.self) (lit w16 0) c.if-self-lt0.true)) in
    subst (λ (t : List ℕ). Put a.out.now a.at t c.put.new.out c.put.result) t (put_byte 45 (omega arith) c.put.ensures.put)

pub returns-clause-put : goal.returns-clause-put
returns-clause-put c =
    let a = c.args in
    let size = c.from-size.ensures ∙ c.unsigned_abs.ensures.value ∙ ap nat_abs (to_z-of_z c.ranges.self) in
    let t = ap decimal size ∙ sym (signed_above a.self (lt_no (arg c.ranges.self) (lit w16 0) c.if-self-lt0.false)) in
    subst (λ (t : List ℕ). Put a.out.now a.at t c.put-2.new.out c.put-2.result) t c.put-2.ensures.put
