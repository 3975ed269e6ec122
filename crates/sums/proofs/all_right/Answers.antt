use mathlib.Core.Path.{ap, ◌∙◌}
use native.Mathlib.Omega.{arith}
use Rattle.rules.specs.Rules.{E}
use Rattle.ages.specs.Ages.{past}
use Rattle.sums.specs.Direct.{E-squares}
use Rattle.sums.proofs.all_right.Goals as goal

pub loop-i-init : goal.loop-i-init
loop-i-init c =
    let a = c.args in
    let x = past a.s.now in
    (c.energy-sum.ensures ∙ E-squares x a.low ∙ ap (E x) (omega arith), λ j l. absurd (omega arith))
