-- `sums::by_pairs` meets its contract: after i turns the sums are those of the two parts of the first i pairs.
use Prim.Native.Nat.{ℕ}
use Rattle.whole.specs.Adding.{Summed}
use Rattle.sums.specs.Direct.{high_of, low_of, products, paired}
use Rattle.sums.proofs.by_pairs.Given as goal

abbrev pub invariant-loop-i : goal.invariant-loop-i
invariant-loop-i l =
    Summed 32768 (λ (k : ℕ). high_of (paired (products l.s l.to l.from) k)) l.i l.highs × Summed 65536 (λ (k : ℕ). low_of (paired (products l.s l.to l.from) k)) l.i l.lows
