-- So many bytes were written, and the rest is what follows them.
use Rattle.std.proofs.Common.{◌≡◌, ℕ, take, drop}
use Rattle.std.specs.Io.KnownBytes.{Appends}
use Rattle.streams.proofs.write_out.Given as goal

abbrev pub invariant-loop : goal.invariant-loop
invariant-loop g l = (n : ℕ) × (l.rest ≡ drop n l.bytes) × Appends (g.W.Write.contents l.initial.output) (g.W.Write.contents l.output) (take n l.bytes)
