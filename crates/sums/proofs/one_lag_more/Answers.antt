-- `sums::one_lag_more` meets its contract: lags L and L + 1 differ by two squares (`E-shift`), and E of 16-bit samples is small (`energy-small`).
use mathlib.Core.Path.{◌≡◌, ap, ◌∙◌}
use Prim.Native.Nat.{◌+◌, ◌*◌, ◌^◌, ◌≤◌}
use native.Mathlib.Omega.{arith}
use mir.Syntax.{w16}
use mir.Facts.{to_z-of_z}
use Rattle.rules.specs.Rules.{sq}
use Rattle.rules.proofs.Energies.{E-shift}
use Rattle.ages.specs.Ages.{past, past-fits}
use Rattle.sums.specs.Sweep.{energy-small}
use Rattle.sums.proofs.one_lag_more.Goals.{Start}
use Rattle.sums.proofs.one_lag_more.Goals as goal

-- E is small
small : (c : Start) → c.args.e ≤ 2 ^ 41
small c = energy-small (past-fits c.requires.0.samples) (omega arith) c.requires.1

pub overflow_add-result : goal.overflow_add-result
overflow_add-result c = omega (arith, small (goal.at.overflow_add-result c).Start)

pub overflow_add-result-2 : goal.overflow_add-result-2
overflow_add-result-2 c = omega (arith, small (goal.at.overflow_add-result-2 c).Start)

pub returns : goal.returns
returns c =
    let a = c.args in
    let y : c.square.result ≡ sq (past a.s.now (2 * a.lag)) =
    c.square.ensures.0 ∙ ap sq (to_z-of_z {w = w16} {z = c.back-y.result} (record { sfits = c.back-y.type_inv }) ∙ c.back-y.ensures)
    in
    let z : c.square-2.result ≡ sq (past a.s.now (2 * a.lag + 1)) =
    c.square-2.ensures.0 ∙ ap sq (to_z-of_z {w = w16} {z = c.back-z.result} (record { sfits = c.back-z.type_inv }) ∙ c.back-z.ensures)
    in
    omega (arith, c.requires.1, E-shift (past a.s.now) a.lag)
