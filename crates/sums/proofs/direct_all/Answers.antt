use mathlib.Core.Path.{ap, ◌∙◌}
use native.Mathlib.Omega.{arith}
use Rattle.rules.specs.Rules.{E}
use Rattle.ages.specs.Ages.{past}
use Rattle.sums.specs.Direct.{E-squares}
use Rattle.sums.specs.Sweep.{sweep-start}
use Rattle.sums.proofs.direct_all.Goals as goal

pub loop-i-init : goal.loop-i-init
loop-i-init c =
    let a = c.args in
    let x = past a.s.now in
    (c.energy-sum.ensures ∙ E-squares x a.low ∙ ap (E x) (omega arith), sweep-start _ _ _ _)
