-- Each batch adds its lines to those said before, and each turn but the last moves on.
use Rattle.std.proofs.Common.{◌-◌, ◌≡◌, [], length}
use Rattle.daxfolin.specs.Laws.{ServedSoFar}
use Rattle.daxfolin.proofs.serve.Given as goal

abbrev pub invariant-loop-u : goal.invariant-loop-u
invariant-loop-u g l = record {
  served : ServedSoFar l.fn.t l.input l.u l.at;
  same : l.t ≡ l.fn.t;
  room : length l.out ≡ length l.fn.out;
  store : l.store ≡ [];
}

abbrev pub decreases-loop-u : goal.decreases-loop-u
decreases-loop-u g l = length l.input - l.at
