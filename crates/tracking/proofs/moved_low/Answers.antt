-- `tracking::moved_low` meets its contract: its tests are those of `moved`.
use Prim.Native.Nat.{◌+◌}
use native.Mathlib.Omega.{arith}
use borrow.Author.Tests.{lt-ltb, le-ltb, eq-eqb, ne_eqb}
use Rattle.rules.specs.Rules.{moved}
use Rattle.tracking.proofs.moved_low.Goals as goal

pub returns-then-low-eq-LOWEST_LAG : goal.returns-then-low-eq-LOWEST_LAG
unfolding moved
returns-then-low-eq-LOWEST_LAG c = rw (lt-ltb c.args.at 3 (omega arith), eq-eqb _ 16 c.if-low-eq-LOWEST_LAG.true)

pub returns-else-low-eq-LOWEST_LAG : goal.returns-else-low-eq-LOWEST_LAG
unfolding moved
returns-else-low-eq-LOWEST_LAG c = rw (lt-ltb c.args.at 3 (omega arith), ne_eqb _ 16 c.if-low-eq-LOWEST_LAG.false)

pub returns-then-low-eq-HIGHEST_LOW : goal.returns-then-low-eq-HIGHEST_LOW
unfolding moved
returns-then-low-eq-HIGHEST_LOW c =
    let a = c.args in
    rw (le-ltb a.at 3 (omega arith), lt-ltb 4 _ c.if-at-gt4.true, eq-eqb (a.low + 7) 880 (omega arith))

pub returns-else-low-eq-HIGHEST_LOW : goal.returns-else-low-eq-HIGHEST_LOW
unfolding moved
returns-else-low-eq-HIGHEST_LOW c =
    let a = c.args in
    rw (le-ltb a.at 3 (omega arith), lt-ltb 4 _ c.if-at-gt4.true, ne_eqb (a.low + 7) 880 (λ e. c.if-low-eq-HIGHEST_LOW.false (omega arith)))

pub returns-else-at-gt4 : goal.returns-else-at-gt4
unfolding moved
returns-else-at-gt4 c = rw (le-ltb c.args.at 3 (omega arith), le-ltb 4 _ c.if-at-gt4.false)
