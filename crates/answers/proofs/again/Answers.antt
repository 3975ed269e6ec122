-- `answers::again` meets its contract: the comparison of two slices is that of their samples.
use Rattle.std.proofs.Common.{ℕ, ◌-◌, drop, ◌∙◌, ap, sym, arith, length-drop, take_all}
use Rattle.std.proofs.lemmas.Bool.Decides.{Decides-int_eq}
use Rattle.std.proofs.lemmas.Slice.Eq.{slice_eq-Decides}
use Rattle.whole.specs.Tests.{yes_and_no}
use Rattle.answers.proofs.again.Goals as goal

pub returns : goal.returns
returns c =
    let store = c.args.store.now in
    let d = slice_eq-Decides Decides-int_eq c.args.samples.now _ c.eq.result c.eq.ensures in
    let e = take_all (1764 - (1764 - c.from.result)) (drop (1764 - c.from.result) store) (omega (arith, length-drop (1764 - c.from.result) store, c.from.ensures)) ∙ ap (λ (n : ℕ). drop (1764 - n) store) c.from.ensures in
    record { yes = λ t. d.0 t ∙ e; no = λ f p. yes_and_no (d.1 (p ∙ sym e)) f }
