-- `text::read_number` meets its contract: each digit read leaves the rest of the field, and one that is none leaves no number.
use Rattle.std.proofs.Common.{arith, sym, ◌∙◌, eqb-true}
use Rattle.text.specs.Reading.{digit_read, no_digit, number_digits, number_empty, digits-end}
use Rattle.text.proofs.read_number.Goals as goal

pub returns-then-is_empty-clause-value : goal.returns-then-is_empty-clause-value
returns-then-is_empty-clause-value c = let e = c.if-is_empty.ensures in sym (number_empty _ c.args.f.now (eqb-true _ _ (sym e)))

pub returns-in_err-v-clause-value : goal.returns-in_err-v-clause-value
returns-in_err-v-clause-value c =
    let a = c.args in
    let i = c.loop-b.invariant in
    let e = c.in_err-v.ensures in
    c.from_residual.ensures ∙ sym (number_digits a.most a.f.now i.0 ∙ sym i.2 ∙ no_digit a.most a.f.now c.loop-b.b-index c.loop-b.v (omega arith) e.value)

pub loop-b-preserved : goal.loop-b-preserved
loop-b-preserved c =
    let a = c.args in
    let i = c.loop-b.invariant in
    let e = c.in_ok-v.ensures in
    (i.0, e.small, digit_read a.most a.f.now c.loop-b.b-index c.loop-b.v (omega arith) c.in_ok-v.v e.value ∙ i.2)

pub returns-clause-value : goal.returns-clause-value
returns-clause-value c =
    let a = c.args in
    let l = c.loop-b in
    sym (number_digits a.most a.f.now l.invariant.0 ∙ sym l.invariant.2 ∙ digits-end a.most a.f.now l.b-index l.v (omega arith))
