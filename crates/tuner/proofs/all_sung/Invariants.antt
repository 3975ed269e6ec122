-- `tuner::all_sung` meets its contract: after j turns j voices sang, each into its places.
use mathlib.Core.Path.{◌≡◌}
use Prim.Native.Nat.{ℕ, ◌≤◌}
use lib.ListN.{length}
use Rattle.tuner.specs.Tuners.{voice_at}
use Rattle.tuner.specs.Following.{AllSung}
use Rattle.tuner.proofs.all_sung.Given as goal

abbrev pub invariant-loop-j : goal.invariant-loop-j
invariant-loop-j l =
    (length l.outs ≡ 2048) × ((k : ℕ) → l.j ≤ k → voice_at l.vs k ≡ voice_at l.initial.vs k) × AllSung l.hertz l.periods l.notes l.s l.b l.chosen l.j l.initial.vs l.initial.outs l.vs l.outs
