-- After some turns the rates so far are added up.
use Rattle.std.specs.Prelude.{◌≡◌, ◌*◌, ◌≤◌, take}
use Rattle.reports.specs.Counting.{distance_in}
use Rattle.tuner.proofs.strayed.Given as goal

abbrev pub invariant-loop-rate : goal.invariant-loop-rate
invariant-loop-rate l = (l.sum ≡ distance_in (take l.rate-index l.rates)) × (l.sum ≤ 65536 * l.rate-index)
