-- Where as many as there are have the first one's note, all have it.
use mathlib.Core.Path.{sym, ◌∙◌}
use borrow.Author.Rules.{rules}
use Prim.Native.Nat.{◌<◌}
use native.Mathlib.Omega.{arith}
use lib.ListN.{length}
use borrow.Author.Tests.{eqb-true}
use Rattle.lists.proofs.Counting.{all-counted}
use Rattle.lists.proofs.one_note.Goals as goal

pub returns-then-not-is_empty : goal.returns-then-not-is_empty
returns-then-not-is_empty c e =
    let a = c.args in
    let some : 0 < length a.notes.now = search rules in
    all-counted a.notes.now _ _ (omega arith) some (omega arith) (sym c.count_of.ensures ∙ eqb-true _ _ e)
