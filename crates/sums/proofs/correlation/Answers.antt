-- `sums::correlation` meets its contract: the products by pairs, and the last of an odd number, are those of H, taken from the other end.
use mathlib.Core.Path.{◌≡◌, ap, ◌∙◌}
use mathlib.Core.List.{List}
use Prim.Native.Nat.{ℕ, suc, ◌+◌, ◌*◌, ◌-◌, ◌/◌, ◌^◌}
use native.Mathlib.Omega.{arith}
use borrow.Author.Rules.{rules}
use lib.ListN.{length}
use lib.IntN.{ℤ, ◌*ℤ◌}
use mir.Syntax.{w16, w32, w64}
use mir.Val.{of_z}
use mir.Facts.{to_z-of_z}
use Rattle.whole.specs.Numbers.{sum}
use Rattle.whole.specs.Words.{Bits, arg≤, add, is}
use Rattle.rules.specs.Facts.{value_at}
use Rattle.ages.specs.Ages.{from_bits}
use Rattle.sums.specs.Direct.{products, one_more_lem, oldest_products}
use Rattle.sums.proofs.correlation.Goals.{After-product}
use Rattle.sums.proofs.correlation.Goals as goal

pub returns-then-pairs-lag : goal.returns-then-pairs-lag
returns-then-pairs-lag c =
    let a = c.args in
    let all : 2 * (a.lag / 2) ≡ a.lag = omega arith in
    to_z-of_z {w = w64} {z = c.by_pairs-sum.result} (record { sfits = c.by_pairs-sum.type_inv })
    ∙ c.by_pairs-sum.ensures.0
    ∙ ap (sum (products a.s.now (length a.s.now - a.lag) (length a.s.now - a.lag - a.lag))) all
    ∙ oldest_products a.s.now a.lag (omega arith)

-- of an odd number the last product
module _ (c : After-product) where
  abbrev store : List ℤ
  store = c.args.s.now

  abbrev m : ℕ
  m = length c.args.s.now

  abbrev lag : ℕ
  lag = c.args.lag

  abbrev f : ℕ → ℤ
  f = products store (m - lag) (m - lag - lag)

  most : Bits w64 (2 ^ 40) (of_z w64 c.by_pairs-sum.result) (sum f (2 * (lag / 2)))
  most =
      is c.by_pairs-sum.ensures.0
      (arg≤ c.by_pairs-sum.ensures.1 (record { sfits = c.by_pairs-sum.type_inv }))

  newer : m - 1 ≡ m - lag + 2 * (lag / 2)
  newer = omega arith

  older : m - lag - 1 ≡ m - lag - lag + 2 * (lag / 2)
  older = omega arith

  last : Bits w32 (2 ^ 30) (of_z w32 c.product.result) (f (2 * (lag / 2)))
  last =
      is (c.product.ensures.0
      ∙ (λ i. to_z-of_z {w = w16} {z = value_at store (m - 1)} (search rules) i *ℤ to_z-of_z {w = w16} {z = value_at store (m - lag - 1)} (search rules) i)
      ∙ (λ i. value_at store (newer i) *ℤ value_at store (older i)))
      (arg≤ c.product.ensures.1 (record { sfits = c.product.type_inv }))

pub returns : goal.returns
returns c =
    let odd : suc (2 * (lag (goal.at.returns c).After-product / 2)) ≡ lag (goal.at.returns c).After-product = omega arith in
    (add (most (goal.at.returns c).After-product) (from_bits {w' = w64} (last (goal.at.returns c).After-product) c.from.ensures (record { sfits = c.from.type_inv })) tt).reads ∙ one_more_lem (f (goal.at.returns c).After-product) (2 * (lag (goal.at.returns c).After-product / 2)) (lag (goal.at.returns c).After-product) odd ∙ oldest_products (store (goal.at.returns c).After-product) (lag (goal.at.returns c).After-product) (omega arith)
