-- After each turn, listing and store are what the first i notes leave.
use mathlib.Core.Path.{◌≡◌}
use Prim.Native.Nat.{◌-◌, ◌≤◌}
use lib.ListN.{length, take}
use Rattle.lists.specs.Lists.{sheet, after_notes, last_note}
use Rattle.lists.proofs.more.Given as goal

abbrev pub invariant-loop-i : goal.invariant-loop-i
invariant-loop-i l =
    (l.i ≤ length l.notes) × (sheet l.listing l.store ≡ after_notes l.last l.count (sheet l.initial.listing l.initial.store) (take l.i l.notes)) × (l.before ≡ last_note l.last (take l.i l.notes))

abbrev pub decreases-loop-i : goal.decreases-loop-i
decreases-loop-i l = length l.notes - l.i
