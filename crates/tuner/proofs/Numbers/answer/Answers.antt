-- `tuner::Numbers::answer` meets its contract.
use mathlib.Core.Path.{refl, sym, ap, subst, ◌∙◌}
use Prim.Native.Nat.{ℕ, ◌≤◌, ◌<◌}
use borrow.Author.Tests.{le-leb, lt-leb}
use Rattle.std.specs.Prelude.{Result}
use Rattle.whole.specs.Tests.{cond_yes, cond_no}
use Rattle.refusals.specs.declared.Refusal.{Refusal}
use Rattle.answers.specs.declared.Turn.{Turn}
use Rattle.answers.specs.Numbering.{judged_number}
use Rattle.answers.proofs.Turns.{refused-above, turn-upto}
use Rattle.tuner.specs.Tuners.{plain, counted, answer_by}
use Rattle.tuner.proofs.Numbers.answer.Goals as goal

pub returns-in-Ok : goal.returns-in-Ok
unfolding answer_by
returns-in-Ok c =
    let n = c.args.self.now in
    let v = judged_number c.args.verdict in
    let e = c.plain-plain.ensures n refl ∙ ap (λ (k : ℕ). plain k n) c.number.ensures in
    let few = subst (λ (r : Result Turn Refusal). judged_number r ≤ 1) (sym c.in-Ok.is) (turn-upto _) in
    (λ i. record { number = (e i).number; written = n.last.length; repeated = n.last.repeated; dropped = n.last.dropped; pitched = n.last.pitched; strayed = n.last.strayed; rows = (e i).rows; left = (e i).left })
    ∙ sym (cond_yes (counted v n.last.length n) (plain v n) (le-leb v 1 few))

pub returns-in-Err : goal.returns-in-Err
unfolding answer_by
returns-in-Err c =
    let n = c.args.self.now in
    let v = judged_number c.args.verdict in
    let e = c.plain-plain.ensures n refl ∙ ap (λ (k : ℕ). plain k n) c.number.ensures in
    let many = subst (λ (r : Result Turn Refusal). 1 < judged_number r) (sym c.in-Err.is) (refused-above _) in
    e ∙ sym (cond_no (counted v n.last.length n) (plain v n) (lt-leb v 1 many))
