-- `finding::low_at` meets its contract: the places read hold D at the lags l - 1, l and l + 1, and the tests are those of `is_low`.
use mathlib.Core.Path.{◌≡◌, sym, ◌∙◌}
use mathlib.Core.Bool.{true, false}
use mathlib.Core.List.{List}
use Prim.Native.Nat.{ℕ, ◌+◌, ◌-◌, ◌≤◌}
use native.Mathlib.Omega.{arith}
use borrow.Author.Tests.{lt-ltb, le-ltb}
use lib.Dec.{leb}
use lib.ListN.{get_or}
use Rattle.whole.specs.Tests.{yes_and_no}
use Rattle.rules.specs.Rules.{Sound, D, is_low}
use Rattle.finding.specs.Finding.{Measured, distance-at, energy-at}
use Rattle.finding.proofs.low_at.Goals.{then-here-d, else-here-d}
use Rattle.finding.proofs.low_at.Goals as goal

-- D at the three lags
module _ {y : Sound} {d e : List ℕ} (m : Measured y d e) {l : ℕ} (lo : 3 ≤ l) (hi : l ≤ 109) where
  here : get_or d (l - 2) 0 ≡ D y l
  here = distance-at m (omega arith) (omega arith)

  before : get_or d (l - 3) 0 ≡ D y (l - 1)
  before = distance-at m (omega arith) (omega arith)

  after : get_or d (l - 1) 0 ≡ D y (l + 1)
  after = distance-at m (omega arith) (omega arith)

pub returns-then-here-d-2 : goal.returns-then-here-d-2
unfolding is_low
returns-then-here-d-2 c y m =
    let p = c.requires in
    elim c.if-here-d.branch [
      | then-here-d w ↦
          let t : leb (get_or c.args.d.now (c.args.l - 2) 0) (get_or c.args.d.now (c.args.l - 1) 0) ≡ true = sym w.value-is ∙ c.if-here-d-2.true in
          rw (← here m p.0 p.1, ← before m p.0 p.1, ← after m p.0 p.1, lt-ltb _ _ w.if-here-d.true, t)
          (c.passing.ensures y (here m p.0 p.1) (energy-at m (omega arith) (omega arith)))
      | else-here-d w ↦ absurd (yes_and_no c.if-here-d-2.true (w.value-is ∙ le-ltb _ _ w.if-here-d.false))
    ]

pub returns-else-here-d-2 : goal.returns-else-here-d-2
unfolding is_low
returns-else-here-d-2 c y m =
    let p = c.requires in
    elim c.if-here-d.branch [
      | then-here-d w ↦
          let t : leb (get_or c.args.d.now (c.args.l - 2) 0) (get_or c.args.d.now (c.args.l - 1) 0) ≡ false = sym w.value-is ∙ c.if-here-d-2.false in
          rw (← here m p.0 p.1, ← before m p.0 p.1, ← after m p.0 p.1, lt-ltb _ _ w.if-here-d.true, t) c.if-here-d-2.false
      | else-here-d w ↦ rw (← here m p.0 p.1, ← before m p.0 p.1, le-ltb _ _ w.if-here-d.false) c.if-here-d-2.false
    ]
