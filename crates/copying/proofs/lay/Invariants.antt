-- `copying::lay` meets its contract: after i turns the store is the old one with the first i samples pasted in.
use Rattle.std.proofs.Common.{◌≡◌, length}
use lib.Seq.{paste}
use Rattle.ages.specs.Ages.{Samples}
use Rattle.copying.proofs.lay.Given as goal

abbrev pub invariant-loop-i : goal.invariant-loop-i
invariant-loop-i l = (length l.into ≡ length l.initial.into) × (l.into ≡ paste l.initial.into l.from l.xs l.i) × (Samples l.initial.into → Samples l.into)
