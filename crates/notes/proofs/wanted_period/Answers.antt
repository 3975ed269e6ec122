-- By where the note lies, below the table, or from its first note on.
use mathlib.Core.Path.{◌≡◌, sym, ◌∙◌}
use Prim.Native.Nat.{◌-◌}
use borrow.Author.Rules.{rules}
use native.Mathlib.Omega.{arith}
use lib.ListN.{get_or}
use Rattle.rules.specs.Rules.{first_note}
use Rattle.rules.proofs.Notes.{period-below}
use Rattle.notes.specs.Around.{looked_up}
use Rattle.notes.proofs.wanted_period.Goals as goal

pub returns-then-note-t : goal.returns-then-note-t
returns-then-note-t c = sym (period-below _ (omega arith))

pub returns : goal.returns
returns c =
    let t = c.at-t.ensures in
    let read : c.unwrap_or.result ≡ get_or c.at-t.result.periods.now (c.args.note - c.at-t.result.first) 0 = search rules in
    let e : c.args.note - c.at-t.result.first ≡ c.args.note - first_note c.args.hertz = omega arith in
    read ∙ rw e (sym (looked_up c.requires t.2 (omega arith)))
