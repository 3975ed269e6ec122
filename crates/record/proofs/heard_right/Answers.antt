-- `record::heard_right` meets its contract, test by test.
use mathlib.Core.Path.{sym, ◌∙◌}
use native.Mathlib.Omega.{arith}
use borrow.Author.Tests.{leb-true}
use Rattle.whole.specs.Tests.{yes_and_no, decides_as}
use Rattle.record.specs.Parts.{silent_of, right_of}
use Rattle.record.proofs.heard_right.Goals.{then-count-le-TAKE_LIMIT, else-count-le-TAKE_LIMIT, then-silent, else-silent}
use Rattle.record.proofs.heard_right.Goals as goal

pub returns-then-silent-2 : goal.returns-then-silent-2
returns-then-silent-2 c =
    elim c.if-silent.branch [
      | then-silent w ↦
          elim c.if-count-le-TAKE_LIMIT.branch [
            | then-count-le-TAKE_LIMIT v ↦
                let b = silent_of c.args.store.now 1764 _ _ v.before-then-count-le-TAKE_LIMIT.ensures v.silent.ensures in
                let e = silent_of c.args.eighths.now 224 _ _ w.before-then-silent.ensures w.silent-then-silent.ensures in
                decides_as (right_of c.args.eighths.now 224 109 c.told-eighths c.told-energies c.eighths_right.ensures)
                (λ r. record { count = v.if-count-le-TAKE_LIMIT.true; before = b.yes (sym v.value-is ∙ w.if-silent.true); eighths_before = e.yes (sym w.value-is ∙ c.if-silent-2.true); sums = r })
                (λ p. p.sums)
            | else-count-le-TAKE_LIMIT v ↦ absurd (omega (arith, leb-true c.args.count 1000000000 (sym v.value-is ∙ w.if-silent.true)))
          ]
      | else-silent w ↦ absurd (yes_and_no c.if-silent-2.true (w.value-is ∙ w.if-silent.false))
    ]
