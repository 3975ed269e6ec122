-- The samples so far are counted, and no sum is large.
use Rattle.std.proofs.Common.{◌≡◌, ◌*◌, ◌≤◌, length, take}
use Rattle.reports.specs.Counting.{pitched_in, distance_in}
use Rattle.reports.proofs.Figures.of_block.Given as goal

abbrev pub invariant-loop-period : goal.invariant-loop-period
invariant-loop-period l =
    record {
      can : (goal.iterator-loop-period).can_next l.period-iterator;
      finite : (goal.iterator-loop-period).is_finite l.period-iterator;
      pitched_is : l.pitched ≡ pitched_in (take (length l.yielded) l.periods);
      sum_is : l.sum ≡ distance_in (take (length l.yielded) l.rates);
      pitched_few : l.pitched ≤ length l.yielded;
      sum_few : l.sum ≤ 4294967296 * length l.yielded;
      within : length l.yielded ≤ length l.periods;
    }
