-- The lines passed are answered, and each answer stands after those before it.
use Rattle.std.proofs.Common.{◌-◌, ◌≤◌, length}
use Rattle.lines.specs.Lines.{desk}
use Rattle.lines.specs.Batch.{Batch}
use Rattle.lines.proofs.answer_lines.Given as goal

abbrev pub invariant-loop-at : goal.invariant-loop-at
invariant-loop-at l = (l.at ≤ length l.input) × Batch (desk l.initial.t l.initial.store) l.input l.initial.out (desk l.t l.store) l.at l.length l.out

abbrev pub decreases-loop-at : goal.decreases-loop-at
decreases-loop-at l = length l.input - l.at
