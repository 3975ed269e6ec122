-- `writing::put_samples` meets its contract: the bytes of those before place i are stored.
use Rattle.std.proofs.Common.{◌≡◌, take}
use Rattle.std.proofs.lemmas.List.Edits.{sets}
use Rattle.writing.specs.Canonical.{sample_bytes}
use Rattle.writing.proofs.put_samples.Given as goal

abbrev pub invariant-loop-i : goal.invariant-loop-i
invariant-loop-i l = l.out ≡ sets l.initial.out 0 (sample_bytes (take l.i l.xs))
