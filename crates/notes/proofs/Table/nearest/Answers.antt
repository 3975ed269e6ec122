-- The wanted note is the last with a longer period or the first without.
use mathlib.Core.Path.{◌≡◌}
use Prim.Native.Nat.{◌+◌, ◌≤◌, ◌<◌}
use native.Mathlib.Omega.{arith}
use lib.ListN.{length, get_or}
use Rattle.rules.specs.Rules.{notes}
use Rattle.notes.specs.Around.{LastOfScale, FirstOfScale, period_at, at_place, as_long, last_is_longer, first_is_shorter, last_wanted, first_wanted, only_first, some_side}
use Rattle.notes.proofs.Table.nearest.Goals.{In-Some-Some}
use Rattle.notes.proofs.Table.nearest.Goals as goal

-- both searches found a note
module _ (c : In-Some-Some) where
  last : LastOfScale c.args.self.hertz c.args.scale c.longer-k.result (c.in-Some-Some.low + 1)
  last = rw c.in-Some-Some.is-0 at c.last_of_scale-below.ensures

  first : (c.in-Some-Some.high < notes c.args.self.hertz) × FirstOfScale c.args.self.hertz c.args.scale c.longer-k.result c.in-Some-Some.high
  first = rw c.in-Some-Some.is-1 at c.first_of_scale-above.ensures

  long : get_or c.args.self.periods.now c.in-Some-Some.low 0 ≡ period_at c.args.self.hertz c.in-Some-Some.low
  long = at_place _ c.requires.0.periods _

  short : get_or c.args.self.periods.now c.in-Some-Some.high 0 ≡ period_at c.args.self.hertz c.in-Some-Some.high
  short = at_place _ c.requires.0.periods _

  over : c.args.period < period_at c.args.self.hertz c.in-Some-Some.low
  over = (last_is_longer c.requires.0.rate c.longer-k.ensures c.requires.1 c.requires.2 _ last).1

  under : period_at c.args.self.hertz c.in-Some-Some.high ≤ c.args.period
  under = first_is_shorter c.requires.0.rate c.longer-k.ensures c.requires.1 c.requires.2 first.0 first.1

  length_is : length c.args.self.periods.now ≡ notes c.args.self.hertz
  length_is = as_long c.requires.0.rate c.requires.0.periods

  within : c.in-Some-Some.low < notes c.args.self.hertz
  within = (last_is_longer c.requires.0.rate c.longer-k.ensures c.requires.1 c.requires.2 _ last).0

pub offset_bounds-self-high : goal.offset_bounds-self-high
offset_bounds-self-high c = let f = (goal.at.offset_bounds-self-high c).In-Some-Some in omega (arith, first f, length_is f, c.ranges.self)

pub bounds-self-high : goal.bounds-self-high
bounds-self-high c = let f = (goal.at.bounds-self-high c).In-Some-Some in omega (arith, first f, length_is f)

pub overflow_sub-period : goal.overflow_sub-period
overflow_sub-period c = let f = (goal.at.overflow_sub-period c).In-Some-Some in omega (arith, short f, under f)

pub offset_bounds-self-low : goal.offset_bounds-self-low
offset_bounds-self-low c = let f = (goal.at.offset_bounds-self-low c).In-Some-Some in omega (arith, within f, length_is f, c.ranges.self)

pub bounds-self-low : goal.bounds-self-low
bounds-self-low c = let f = (goal.at.bounds-self-low c).In-Some-Some in omega (arith, within f, length_is f)

pub overflow_sub-self : goal.overflow_sub-self
overflow_sub-self c = let f = (goal.at.overflow_sub-self c).In-Some-Some in omega (arith, long f, over f)

pub unreachable-requires : goal.unreachable-requires
unreachable-requires c =
    some_side c.requires.0.rate c.longer-k.ensures c.requires.1 c.requires.2 (rw c.in-None-None.is-0 at c.last_of_scale-below.ensures) (rw c.in-None-None.is-1 at c.first_of_scale-above.ensures)

pub returns-then-period-self : goal.returns-then-period-self
returns-then-period-self c =
    let f = (goal.at.returns-then-period-self c).In-Some-Some in
    first_wanted c.requires.0.rate c.longer-k.ensures c.requires.1 c.requires.2 _ (last f) (first f).1 (first f).0 (omega (arith, long f, short f))

pub returns-else-period-self : goal.returns-else-period-self
returns-else-period-self c =
    let f = (goal.at.returns-else-period-self c).In-Some-Some in
    last_wanted c.requires.0.rate c.longer-k.ensures c.requires.1 c.requires.2 _ (last f) (first f).1 (λ h. omega (arith, long f, short f))

pub returns-in-Some-None : goal.returns-in-Some-None
returns-in-Some-None c =
    last_wanted c.requires.0.rate c.longer-k.ensures c.requires.1 c.requires.2 _ (rw c.in-Some-None.is-0 at c.last_of_scale-below.ensures) (rw c.in-Some-None.is-1 at c.first_of_scale-above.ensures)
    (λ h. absurd (omega arith))

pub returns-in-None-Some : goal.returns-in-None-Some
returns-in-None-Some c =
    only_first c.requires.0.rate c.longer-k.ensures c.requires.1 c.requires.2 (rw c.in-None-Some.is-0 at c.last_of_scale-below.ensures)
    (rw c.in-None-Some.is-1 at c.first_of_scale-above.ensures).1
