use mathlib.Core.Path.{◌≡◌, ap, ◌∙◌}
use mathlib.Core.List.{List}
use Prim.Native.Nat.{ℕ, ◌+◌, ◌*◌, ◌≤◌}
use native.Mathlib.Omega.{arith}
use borrow.Author.Rules.{rules}
use lib.IntN.{ℤ, pos, nat_abs, ◌+ℤ◌, ◌-ℤ◌, ◌*ℤ◌}
use mir.Syntax.{w16, w32, w64}
use mir.Val.{SFits, to_z, of_z}
use mir.Facts.{to_z-of_z}
use Rattle.whole.specs.Words.{Bits, arg≤, lit, num, loop, add, mul, is}
use Rattle.whole.specs.Adding.{summed-start, summed, summed_ok}
use Rattle.whole.specs.Numbers.{sum}
use Rattle.rules.specs.Facts.{value_at}
use Rattle.ages.specs.Ages.{from_bits}
use Rattle.sums.specs.Direct.{high_of, low_of, parts, products, paired, pairs_sum}
use Rattle.sums.proofs.by_pairs.Goals.{After-high_part-highs, After-loop-i, After-low_part-lows, After-pair-p}
use Rattle.sums.proofs.by_pairs.Goals as goal

pub loop-i-init : goal.loop-i-init
loop-i-init c = (summed-start _ _, summed-start _ _)

-- what a turn adds
module _ (c : After-pair-p) where
  abbrev store : List ℤ
  store = c.args.s.now

  abbrev newer : ℕ
  newer = c.args.to

  abbrev older : ℕ
  older = c.args.from

  abbrev turn : ℕ
  turn = c.loop-i.i

  -- the second of a pair stands one place on
  on : (p : ℕ) → p + 2 * turn + 1 ≡ p + (2 * turn + 1)
  on p = omega arith

  term : to_z w32 (of_z w32 c.pair-p.result) ≡ paired (products store newer older) turn
  term =
      let f1 : SFits w16 (value_at store (newer + 2 * turn)) = search rules in
      let f2 : SFits w16 (value_at store (older + 2 * turn)) = search rules in
      let f3 : SFits w16 (value_at store (newer + 2 * turn + 1)) = search rules in
      let f4 : SFits w16 (value_at store (older + 2 * turn + 1)) = search rules in
      to_z-of_z {w = w32} {z = c.pair-p.result} (record { sfits = c.pair-p.type_inv })
      ∙ c.pair-p.ensures.0
      ∙ (λ j. to_z-of_z {w = w16} {z = value_at store (newer + 2 * turn)} f1 j *ℤ to_z-of_z {w = w16} {z = value_at store (older + 2 * turn)} f2 j -ℤ pos 1
      +ℤ to_z-of_z {w = w16} {z = value_at store (newer + 2 * turn + 1)} f3 j *ℤ to_z-of_z {w = w16} {z = value_at store (older + 2 * turn + 1)} f4 j)
      ∙ (λ j. products store newer older (2 * turn) -ℤ pos 1 +ℤ value_at store (on newer j) *ℤ value_at store (on older j))

top : {h p x : ℤ} → h ≡ high_of p → p ≡ x → nat_abs h ≤ 32768 → SFits w32 h → Bits w32 32768 (of_z w32 h) (high_of x)
top e t n f = is (e ∙ ap high_of t) (arg≤ n f)

bottom : {l p x : ℤ} → l ≡ low_of p → p ≡ x → nat_abs l ≤ 65536 → SFits w32 l → Bits w32 65536 (of_z w32 l) (low_of x)
bottom e t n f = is (e ∙ ap low_of t) (arg≤ n f)

pub overflow_add-highs : goal.overflow_add-highs
overflow_add-highs c = summed_ok 440 c.loop-i.invariant.0 (top c.high_part-highs.ensures.0 (term (goal.at.overflow_add-highs c).After-pair-p) c.high_part-highs.ensures.1 (record { sfits = c.high_part-highs.type_inv })) (omega arith) tt

pub overflow_add-lows : goal.overflow_add-lows
overflow_add-lows c = summed_ok 440 c.loop-i.invariant.1 (bottom c.low_part-lows.ensures.0 (term (goal.at.overflow_add-lows c).After-pair-p) c.low_part-lows.ensures.1 (record { sfits = c.low_part-lows.type_inv })) (omega arith) tt

pub loop-i-preserved : goal.loop-i-preserved
loop-i-preserved c =
    let l = c.loop-i in
    (summed 440 l.invariant.0 (top c.high_part-highs.ensures.0 (term (goal.at.loop-i-preserved c).After-pair-p) c.high_part-highs.ensures.1 (record { sfits = c.high_part-highs.type_inv })) (omega arith) tt, summed 440 l.invariant.1 (bottom c.low_part-lows.ensures.0 (term (goal.at.loop-i-preserved c).After-pair-p) c.low_part-lows.ensures.1 (record { sfits = c.low_part-lows.type_inv })) (omega arith) tt)

-- the sums at the end
module _ (c : After-loop-i) where
  abbrev f : ℕ → ℤ
  f = products c.args.s.now c.args.to c.args.from

  abbrev turns : ℕ
  turns = c.loop-i.i

  all-highs : Bits w32 (32768 * 440) c.loop-i.highs-bits (sum (λ (k : ℕ). high_of (paired f k)) turns)
  all-highs = loop w32 c.loop-i.highs-bits (32768 * 440) c.loop-i.invariant.0.reads (omega (arith, c.loop-i.invariant.0.size))

  all-lows : Bits w32 (65536 * 440) c.loop-i.lows-bits (sum (λ (k : ℕ). low_of (paired f k)) turns)
  all-lows = loop w32 c.loop-i.lows-bits (65536 * 440) c.loop-i.invariant.1.reads (omega (arith, c.loop-i.invariant.1.size))

  -- how many pairs there were
  many : Bits w64 440 c.args.pairs (pos turns)
  many = is (ap pos (omega arith)) (num {w = w64} {n = 440} {z = pos c.args.pairs} c.requires.2 tt)

pub returns : goal.returns
returns c =
    let k = (goal.at.returns c).After-loop-i in
    let wide = from_bits {w' = w64} (all-highs k) c.from.ensures (record { sfits = c.from.type_inv }) in
    let low = from_bits {w' = w64} (all-lows k) c.from-2.ensures (record { sfits = c.from-2.type_inv }) in
    let all = add (add (mul wide (lit w64 65536) tt) low tt) (many k) tt in
    let twice : 2 * turns k ≡ 2 * c.args.pairs = omega arith in
    let e = all.reads ∙ ap (λ (z : ℤ). z +ℤ pos (turns k)) (parts (paired (f k)) (turns k)) ∙ pairs_sum (f k) (turns k) ∙ ap (sum (f k)) twice in
    (e, omega (arith, ap nat_abs all.reads, all.size.within))
