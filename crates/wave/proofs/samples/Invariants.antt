-- `wave::samples` meets its contract: those before place i are written.
use Rattle.std.proofs.Common.{◌≡◌, ℕ, ◌*◌, ◌<◌, pos, get_or}
use Rattle.riff.specs.Riff.{number_at}
use Rattle.wave.specs.Waves.{sample_of}
use Rattle.wave.proofs.samples.Given as goal

abbrev pub invariant-loop-i : goal.invariant-loop-i
invariant-loop-i l = (k : ℕ) → k < l.i → get_or l.out k (pos 0) ≡ sample_of (number_at l.bytes (2 * k) 2)
