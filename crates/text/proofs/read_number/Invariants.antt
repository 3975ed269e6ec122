-- What is left of the field goes on from the number so far.
use Rattle.std.proofs.Common.{◌≡◌, ◌<◌, ◌≤◌, length, drop}
use Rattle.std.specs.Prelude.{Some}
use Rattle.text.specs.Text.{more_digits}
use Rattle.text.proofs.read_number.Given as goal

abbrev pub invariant-loop-b : goal.invariant-loop-b
invariant-loop-b l = (0 < length l.f) × (l.v ≤ l.most) × (more_digits l.most (drop l.b-index l.f) (Some l.v) ≡ more_digits l.most l.f (Some 0))
