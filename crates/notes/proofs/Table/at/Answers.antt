-- Each array is the table of its rate.
use mathlib.Core.Path.{refl, sym}
use Rattle.rules.specs.Rules.{cd_table, film_table}
use Rattle.rules.proofs.Table.{at-cd, at-film}
use Rattle.notes.proofs.Table.at.Goals as goal

pub returns-then-hertz-eq-CD_RATE : goal.returns-then-hertz-eq-CD_RATE
unfolding cd_table
returns-then-hertz-eq-CD_RATE c = let t = at-cd _ c.if-hertz-eq-CD_RATE.true in (refl, sym t.1, sym t.0)

pub returns-else-hertz-eq-CD_RATE : goal.returns-else-hertz-eq-CD_RATE
unfolding film_table
returns-else-hertz-eq-CD_RATE c = let t = at-film _ c.if-hertz-eq-CD_RATE.false in (refl, sym t.1, sym t.0)
