-- `passing::passing` meets its contract: the two tests in turn; nothing overflows, since eps, floor, d and e are small.
use Rattle.std.specs.Prelude.{◌*◌, ◌≤◌, ◌<◌}
use borrow.Author.Tests.{le-leb, lt-leb}
use Rattle.rules.specs.Rules.{passes, meets_eps, meets_floor}
use Rattle.passing.proofs.passing.Goals as goal

pub returns-then-d-from : goal.returns-then-d-from
unfolding passes meets_eps meets_floor
returns-then-d-from c x p q =
    let t : 1024 * c.args.d ≤ c.args.g.eps * c.args.e = rw c.from.ensures at c.if-d-from.true in
    rw (← p, ← q, c.from-then-d-from.ensures, le-leb _ _ t)

pub returns-else-d-from : goal.returns-else-d-from
unfolding passes meets_eps meets_floor
returns-else-d-from c x p q =
    let t : c.args.g.eps * c.args.e < 1024 * c.args.d = rw c.from.ensures at c.if-d-from.false in
    rw (← p, ← q, c.from.ensures, lt-leb _ _ t)
