-- `sums::direct` meets its contract: E is the sum of squares of twice the lag, and both sums are ensured.
use mathlib.Core.Path.{◌∙◌}
use mir.Syntax.{w64}
use mir.Facts.{to_z-of_z}
use Rattle.ages.specs.Ages.{past}
use Rattle.sums.specs.Direct.{E-squares}
use Rattle.sums.proofs.direct.Goals as goal

pub returns : goal.returns
returns c =
    record {
      energy = c.energy.ensures ∙ E-squares (past c.args.s.now) c.args.lag;
      correlation = to_z-of_z {w = w64} {z = c.correlation.result} (record { sfits = c.correlation.type_inv }) ∙ c.correlation.ensures;
    }
