-- Refused before its first block, or block by block.
use Rattle.std.proofs.Common.{refl, arith, ◌∙◌, ap, ℕ}
use Rattle.nights.specs.Night.{no_night, one_by_one}
use Rattle.nights.specs.Going.{above_one, night-refused, night-begins}
use Rattle.nights.proofs.night.Goals as goal

pub go-requires : goal.go-requires
go-requires c = let b = night-begins c.in-Ok.ensures refl in (b.1, (b.0, c.lengths.ensures), b.3)

pub returns-in-Ok : goal.returns-in-Ok
returns-in-Ok c = let b = night-begins c.in-Ok.ensures refl in one_by_one b.0 b.1 b.2 b.3 c.go.ensures

pub returns-in-Err : goal.returns-in-Err
returns-in-Err c = night-refused c.in-Err.ensures (λ z. omega (arith, z, above_one c.in-Err.refusal)) (c.begin.ensures ∙ ap (λ (v : ℕ). no_night v c.args.t.now.numbers) c.number.ensures)
