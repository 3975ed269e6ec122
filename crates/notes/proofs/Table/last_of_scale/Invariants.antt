-- No note passed is of the scale.
use mathlib.Core.Path.{◌≡◌}
use Prim.Native.Nat.{◌+◌, ◌%◌, ◌≤◌}
use Rattle.rules.specs.Rules.{first_note}
use Rattle.notes.specs.Around.{NoneOfScale}
use Rattle.notes.proofs.Table.last_of_scale.Given as goal

abbrev pub invariant-loop-place : goal.invariant-loop-place
invariant-loop-place l = (l.place ≤ l.k) × ((first_note l.self.hertz + l.place) % 12 ≡ l.c) × NoneOfScale l.scale (first_note l.self.hertz + l.place) (first_note l.self.hertz + l.k)
