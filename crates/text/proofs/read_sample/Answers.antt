-- `text::read_sample` meets its contract: the number after a minus, or the whole field.
use Rattle.std.proofs.Common.{arith, sym, ap, ◌∙◌, pos, neg_ℤ, ℕ, w16}
use Rattle.std.specs.Prelude.{Some, option_map}
use mir.Facts.{to_z-of_z}
use Rattle.text.specs.Text.{number}
use Rattle.text.specs.Reading.{minus-sample, without_minus}
use Rattle.text.specs.Signs.{read_below}
use Rattle.text.proofs.read_sample.Goals as goal

pub returns-in_err-n-in-Some : goal.returns-in_err-n-in-Some
returns-in_err-n-in-Some c =
    let s = c.in-Some.ensures.cases in
    c.from_residual.ensures ∙ sym (minus-sample c.args.f.now s.0 ∙ ap (option_map (λ (n : ℕ). neg_ℤ (pos n))) (ap (number 32768) (sym s.1) ∙ sym c.in_err-n-in-Some.ensures.value))

pub returns-in_ok-n-in-Some : goal.returns-in_ok-n-in-Some
returns-in_ok-n-in-Some c =
    let s = c.in-Some.ensures.cases in
    let e = c.in_ok-n-in-Some.ensures in
    ap Some (read_below c.in_ok-n-in-Some.n e.small) ∙ sym (minus-sample c.args.f.now s.0 ∙ ap (option_map (λ (n : ℕ). neg_ℤ (pos n))) (ap (number 32768) (sym s.1) ∙ sym e.value))

pub returns-in_err-n-in-None : goal.returns-in_err-n-in-None
returns-in_err-n-in-None c =
    let s = c.in-None.ensures.cases in
    c.from_residual-in_err-n-in-None.ensures ∙ sym (without_minus c.args.f.now s ∙ ap (option_map (λ (n : ℕ). pos n)) (sym c.in_err-n-in-None.ensures.value))

pub returns-in_ok-n-in-None : goal.returns-in_ok-n-in-None
returns-in_ok-n-in-None c =
    let s = c.in-None.ensures.cases in
    let n = c.in_ok-n-in-None.n in
    let e = c.in_ok-n-in-None.ensures in
    ap Some (to_z-of_z {w = w16} {z = pos n} (record { sfits = omega (arith, e.small) })) ∙ sym (without_minus c.args.f.now s ∙ ap (option_map (λ (n : ℕ). pos n)) (sym e.value))
