use mathlib.Core.Path.{refl, sym, ap, ◌∙◌}
use mathlib.Core.Bool.{cond}
use mathlib.Core.List.{List}
use Prim.Native.Nat.{ℕ}
use native.Mathlib.Numerals.{add-one}
use native.Mathlib.Omega.{arith}
use lib.Dec.{eqb}
use lib.ListN.{get_or, set}
use Rattle.rules.specs.Rules.{no_note}
use Rattle.lists.specs.Hushes.{hushed}
use Rattle.lists.proofs.Hushes.{hushed-behind, hushed-more}
use Rattle.lists.proofs.hush.Goals as goal

pub loop-i-init : goal.loop-i-init
unfolding hushed
loop-i-init c = refl

pub loop-i-preserved : goal.loop-i-preserved
loop-i-preserved c =
    let a = c.args in
    let i = c.loop-i.i in
    let read = ap (λ (ns : List ℕ). get_or ns i 0) c.loop-i.invariant ∙ hushed-behind i a.periods.now a.notes.now in
    (λ j. set (c.loop-i.invariant j) i ((c.sung_at.ensures ∙ ap (λ (m : ℕ). cond (eqb (get_or a.periods.now i 0) 0) no_note m) read) j))
    ∙ hushed-more i a.periods.now a.notes.now (omega arith) (omega arith)
    ∙ ap (λ (m : ℕ). hushed m a.periods.now a.notes.now) (sym (add-one i))
