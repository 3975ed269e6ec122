-- Between two blocks what is left of the night makes it whole (`Going`).
use Rattle.std.proofs.Common.{◌≡◌, ◌+◌, length}
use Rattle.std.specs.Slice.Iter.{chunks_rest, chunks_size}
use Rattle.tuner.specs.Following.{four}
use Rattle.nights.specs.Night.{no_night}
use Rattle.nights.specs.Going.{Going}
use Rattle.nights.proofs.go.Given as goal

abbrev pub invariant-loop-stretch : goal.invariant-loop-stretch
invariant-loop-stretch l =
    let rest = chunks_rest l.stretch-iterator in
    let i = l.initial in
    (chunks_size l.stretch-iterator ≡ l.size) × (l.at + length rest ≡ length l.samples) ×
    Going i.t i.next l.size (no_night 0 i.t.numbers) l.samples (four i.out i.first i.second i.third) i.store
    l.t l.next l.at rest l.sum (four l.out l.first l.second l.third) l.store
