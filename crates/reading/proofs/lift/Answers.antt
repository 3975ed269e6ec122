-- From the cube down it is the rule's sum of square, cube and slope, and each step's size is below 2^63.
use mathlib.Core.Path.{refl, ◌∙◌}
use mathlib.Core.List.{[], ◌∷◌}
use Prim.Native.Nat.{ℕ, ◌+◌, ◌*◌, ◌^◌}
use lib.IntN.{ℤ, pos, ◌+ℤ◌, ◌-ℤ◌, ◌*ℤ◌}
use mir.Syntax.{w64}
use mir.Val.{to_z, of_z}
use Rattle.whole.specs.Words.{Bits, lit, add, add_ok, sub, sub-ok, mul, mul_ok}
use Rattle.whole.specs.Ring.{Expr, var, con, ◌⊕◌, ◌⊖◌, ◌⊗◌, solve}
use Rattle.reading.specs.Bends.{bend, bend_x, lift}
use Rattle.reading.proofs.Samples.{sample, share}
use Rattle.reading.proofs.lift.Goals.{After-from-v}
use Rattle.reading.proofs.lift.Goals as goal

-- what a step makes of two numbers
abbrev plus : ℕ → ℕ → ℕ
plus m n = of_z w64 (to_z w64 m +ℤ to_z w64 n)

abbrev minus : ℕ → ℕ → ℕ
minus m n = of_z w64 (to_z w64 m -ℤ to_z w64 n)

abbrev times : ℕ → ℕ → ℕ
times m n = of_z w64 (to_z w64 m *ℤ to_z w64 n)

-- the steps as the code makes them, each with the number that it holds
module _ (c : After-from-v) where
  abbrev p : ℤ
  p = c.args.p

  abbrev a : ℤ
  a = c.args.a

  abbrev b : ℤ
  b = c.args.b

  abbrev q : ℤ
  q = c.args.q

  abbrev v : ℤ
  v = pos c.args.u

  abbrev p_bits : ℕ
  p_bits = of_z w64 c.from-left.result

  abbrev a_bits : ℕ
  a_bits = of_z w64 c.from-here.result

  abbrev b_bits : ℕ
  b_bits = of_z w64 c.from-next.result

  abbrev q_bits : ℕ
  q_bits = of_z w64 c.from-right.result

  abbrev v_bits : ℕ
  v_bits = of_z w64 c.from-v.result

  left : Bits w64 (2 ^ 15) p_bits p
  left = sample c.from-left.ensures c.ranges.p

  here : Bits w64 (2 ^ 15) a_bits a
  here = sample c.from-here.ensures c.ranges.a

  next : Bits w64 (2 ^ 15) b_bits b
  next = sample c.from-next.ensures c.ranges.b

  part : Bits w64 4096 v_bits v
  part = share c.from-v.ensures c.requires

  abbrev rise_bits : ℕ
  rise_bits = minus b_bits a_bits

  rise : Bits w64 (2 ^ 16) rise_bits (b -ℤ a)
  rise = sub next here tt

  spread : Bits w64 (2 ^ 16) (minus q_bits p_bits) (q -ℤ p)
  spread = sub (sample c.from-right.ensures c.ranges.q) left tt

  abbrev cube_bits : ℕ
  cube_bits = minus (minus q_bits p_bits) (times 3 rise_bits)

  abbrev cube_of : ℤ
  cube_of = q -ℤ p -ℤ pos 3 *ℤ (b -ℤ a)

  cube : Bits w64 (2 ^ 18) cube_bits cube_of
  cube = sub spread (mul (lit w64 3) rise tt) tt

  fall : Bits w64 (2 ^ 16) (minus p_bits a_bits) (p -ℤ a)
  fall = sub left here tt

  abbrev square_bits : ℕ
  square_bits = minus (plus (minus p_bits a_bits) rise_bits) cube_bits

  abbrev square_of : ℤ
  square_of = p -ℤ a +ℤ (b -ℤ a) -ℤ cube_of

  square : Bits w64 (2 ^ 17 + 2 ^ 18) square_bits square_of
  square = sub (add fall rise tt) cube tt

  abbrev sum_bits : ℕ
  sum_bits = plus (times cube_bits v_bits) (times 4096 square_bits)

  sum : Bits w64 (2 ^ 30 + 4096 * (2 ^ 17 + 2 ^ 18)) sum_bits (cube_of *ℤ v +ℤ pos 4096 *ℤ square_of)
  sum = add (mul cube part tt) (mul (lit w64 4096) square tt) tt

  bent : Bits w64 ((2 ^ 30 + 4096 * (2 ^ 17 + 2 ^ 18)) * 4096) (times sum_bits v_bits) ((cube_of *ℤ v +ℤ pos 4096 *ℤ square_of) *ℤ v)
  bent = mul sum part tt

  slope : Bits w64 (2 ^ 40) (times 16777216 (minus b_bits p_bits)) (pos 16777216 *ℤ (b -ℤ p))
  slope = mul (lit w64 16777216) (sub next left tt) tt

  turn : Bits w64 ((2 ^ 30 + 4096 * (2 ^ 17 + 2 ^ 18)) * 4096 + 2 ^ 40) (plus (times sum_bits v_bits) (times 16777216 (minus b_bits p_bits))) ((cube_of *ℤ v +ℤ pos 4096 *ℤ square_of) *ℤ v +ℤ pos 16777216 *ℤ (b -ℤ p))
  turn = add bent slope tt

pub overflow_sub-cube-2 : goal.overflow_sub-cube-2
overflow_sub-cube-2 c = let f = (goal.at.overflow_sub-cube-2 c).After-from-v in sub-ok (spread f) (mul (lit w64 3) (rise f) tt) tt

pub overflow_add-square : goal.overflow_add-square
overflow_add-square c = let f = (goal.at.overflow_add-square c).After-from-v in add_ok (fall f) (rise f) tt

pub overflow_sub-square-2 : goal.overflow_sub-square-2
overflow_sub-square-2 c = let f = (goal.at.overflow_sub-square-2 c).After-from-v in sub-ok (add (fall f) (rise f) tt) (cube f) tt

pub overflow_mul-bend : goal.overflow_mul-bend
overflow_mul-bend c = let f = (goal.at.overflow_mul-bend c).After-from-v in mul_ok (cube f) (part f) tt

pub overflow_mul-bend-2 : goal.overflow_mul-bend-2
overflow_mul-bend-2 c = let f = (goal.at.overflow_mul-bend-2 c).After-from-v in mul_ok (lit w64 4096) (square f) tt

pub overflow_add-bend : goal.overflow_add-bend
overflow_add-bend c = let f = (goal.at.overflow_add-bend c).After-from-v in add_ok (mul (cube f) (part f) tt) (mul (lit w64 4096) (square f) tt) tt

pub overflow_mul-bend-3 : goal.overflow_mul-bend-3
overflow_mul-bend-3 c = let f = (goal.at.overflow_mul-bend-3 c).After-from-v in mul_ok (sum f) (part f) tt

pub overflow_add-result : goal.overflow_add-result
overflow_add-result c = let f = (goal.at.overflow_add-result c).After-from-v in add_ok (bent f) (slope f) tt

pub overflow_mul-result-2 : goal.overflow_mul-result-2
overflow_mul-result-2 c = let f = (goal.at.overflow_mul-result-2 c).After-from-v in mul_ok (turn f) (part f) tt

-- the cube's factor as the code has it
abbrev factor : Expr
factor = var 3 ⊖ var 0 ⊖ con (pos 3) ⊗ (var 2 ⊖ var 1)

abbrev rest : Expr
rest = con (pos 16777216) ⊗ (var 2 ⊖ var 0)

pub returns : goal.returns
unfolding bend lift
returns c =
    let f = (goal.at.returns c).After-from-v in
    (mul (turn f) (part f) tt).reads
    ∙ solve (p f ∷ a f ∷ b f ∷ q f ∷ v f ∷ [])
    (((factor ⊗ var 4 ⊕ con (pos 4096) ⊗ (var 0 ⊖ var 1 ⊕ (var 2 ⊖ var 1) ⊖ factor)) ⊗ var 4 ⊕ rest) ⊗ var 4)
    ((bend_x (var 0) (var 1) (var 2) (var 3) (var 4) ⊕ rest) ⊗ var 4)
    refl
