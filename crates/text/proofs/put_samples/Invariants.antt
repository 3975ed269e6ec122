-- Each sample is put after those before it.
use Rattle.std.proofs.Common.{◌+◌, ◌*◌, ◌≤◌, take}
use Rattle.text.specs.Text.{sample_fields, Put}
use Rattle.text.proofs.put_samples.Given as goal

abbrev pub invariant-loop-x : goal.invariant-loop-x
invariant-loop-x l = Put l.initial.out l.at (sample_fields (take l.x-index l.xs)) l.out l.to × (l.to ≤ l.at + 7 * l.x-index)
