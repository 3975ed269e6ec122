-- `record::tracker_right` meets its contract: the lags, and then their sums over all that is kept decide.
use borrow.Author.Rules.{rules}
use mathlib.Core.Path.{◌≡◌}
use lib.ListN.{length}
use Rattle.whole.specs.Tests.{decides_as}
use Rattle.record.specs.Parts.{right_of}
use Rattle.record.proofs.tracker_right.Goals as goal

pub returns-then-lags_right : goal.returns-then-lags_right
returns-then-lags_right c =
    let e : length c.args.t.e ≡ 8 = search rules in
    decides_as (right_of c.args.store.now 1764 8 c.told-store e c.all_right.ensures)
    (λ r. record { lags = c.lags_right.ensures.yes c.if-lags_right.true; sums = r })
    (λ p. p.sums)
