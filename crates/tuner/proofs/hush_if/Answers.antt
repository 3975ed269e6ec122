-- `tuner::hush_if` meets its contract: the notes of the block are hushed; where no period is 0 they are so as they stand.
use mathlib.Core.Path.{sym, ap, ◌∙◌}
use mathlib.Core.List.{List, ◌++◌}
use Prim.Native.Nat.{ℕ}
use native.Mathlib.Omega.{arith}
use lib.ListN.{drop}
use Rattle.lists.proofs.Hushes.{hushed-front, hushed-none}
use Rattle.tuner.proofs.hush_if.Goals as goal

pub returns-then-pitched-b : goal.returns-then-pitched-b
returns-then-pitched-b c =
    let a = c.args in
    let p = c.requires in
    ap (λ (l : List ℕ). l ++ drop a.b a.notes.now) c.hush.ensures
    ∙ hushed-front a.b a.periods.now a.notes.now (omega (arith, p.0, c.told-periods)) (omega (arith, p.0, c.told-notes))

pub returns-else-pitched-b : goal.returns-else-pitched-b
returns-else-pitched-b c =
    let a = c.args in
    let p = c.requires in
    sym (hushed-none a.b a.periods.now a.notes.now (omega (arith, p.0, c.told-periods)) (omega (arith, p.0, c.told-notes)) (omega (arith, p.1, c.if-pitched-b.false)))
