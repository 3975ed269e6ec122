-- `voices::sing` meets its contract: after i samples it is so of the first i (`Sang`), and each stretch goes on from there.
use mathlib.Core.Path.{◌≡◌}
use Prim.Native.Nat.{◌-◌, ◌≤◌}
use lib.ListN.{length}
use Rattle.voices.specs.Singing.{Reckoned, Sang}
use Rattle.voices.proofs.sing.Given as goal

abbrev pub invariant-loop-i : goal.invariant-loop-i
invariant-loop-i l =
    (l.i ≤ l.b) × (length l.out ≡ length l.initial.out) × Reckoned l.hertz l.interval l.v.period l.v.note l.v.entry l.v.rate × Sang l.hertz l.interval l.behind l.periods l.notes l.s l.m l.i l.initial.out l.out l.v.behind

abbrev pub decreases-loop-i : goal.decreases-loop-i
decreases-loop-i l = l.b - l.i
