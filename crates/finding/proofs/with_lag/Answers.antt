-- `finding::with_lag` meets its contract: a low is the least so far, and the least before it is then the next; any other lag changes nothing.
use mathlib.Core.Path.{sym, ◌∙◌}
use native.Mathlib.Omega.{arith}
use Rattle.finding.specs.Scan.{lower_in_order, low_in_order, leasts_low, leasts_no_low}
use Rattle.finding.proofs.with_lag.Goals as goal

pub returns-then-low_at : goal.returns-then-low_at
returns-then-low_at c =
    let p = c.requires in (
      low_in_order p.0 p.1 p.5,
      λ y m r. leasts_low p.0 p.1 r (sym (c.low_at.ensures y m) ∙ c.if-low_at.true),
    )

pub returns-else-low_at : goal.returns-else-low_at
returns-else-low_at c =
    let p = c.requires in (
      lower_in_order (omega arith) p.5,
      λ y m r. leasts_no_low p.0 p.1 r (sym (c.low_at.ensures y m) ∙ c.if-low_at.false),
    )
