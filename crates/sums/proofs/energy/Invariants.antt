-- `sums::energy` meets its contract: after i turns the sum is that of the i oldest squares; all of them are the newest, taken from the other end.
use Rattle.std.proofs.Common.{◌≡◌, ℕ, ◌+◌, ◌*◌, ◌-◌, ◌^◌, ◌≤◌, length}
use Rattle.whole.specs.Numbers.{total}
use Rattle.rules.specs.Facts.{value_at}
use Rattle.rules.specs.Rules.{sq}
use Rattle.sums.proofs.energy.Given as goal

abbrev pub invariant-loop-x : goal.invariant-loop-x
invariant-loop-x l = (l.sum ≡ total (λ (k : ℕ). sq (value_at l.s (length l.s - l.count + k))) l.x-index) × (l.sum ≤ 2 ^ 30 * l.x-index)
