use mathlib.Core.Path.{refl, ap, ◌∙◌}
use native.Mathlib.Omega.{arith}
use lib.ListN.{length, length-set}
use Rattle.reading.specs.Gliding.{glided-none, glided-more}
use Rattle.reading.proofs.glide.Goals as goal

pub loop-i-init : goal.loop-i-init
loop-i-init c = let a = c.args in (glided-none a.behind a.rates.now a.periods.now a.s.now a.m a.out.now c.requires.0 refl refl refl, refl)

pub loop-i-preserved : goal.loop-i-preserved
loop-i-preserved c =
    let l = c.loop-i in
    let a = c.args in
    let p = c.requires in (
      glided-more a.behind a.rates.now a.periods.now a.s.now a.m a.out.now (omega (arith, p.4, p.5)) l.invariant.0 c.turn-g.ensures.0 c.turn-g.ensures.1,
      ap length (c.turn-g.ensures.1 0) ∙ length-set l.out l.i _ ∙ l.invariant.1,
    )
