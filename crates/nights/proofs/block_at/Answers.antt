-- The block goes to what is left of each output.
use Rattle.std.proofs.Common.{◌≡◌, ℕ, ◌+◌, ◌-◌, ◌≤◌, min, List, ◌++◌, map, length, take, drop, ℤ, sym, refl, arith, length-append, length-take, length-drop}
use mathlib.Core.Path.{transport}
use Rattle.tuner.specs.Tuners.{kept_outs, Roomy, Took}
use Rattle.tuner.specs.Following.{four}
use Rattle.nights.specs.Going.{Kept, rest-lent, put_back, part_room}
use Rattle.nights.proofs.block_at.Goals.{After-min-three}
use Rattle.nights.proofs.block_at.Goals as goal

-- an output with what was written into the rest of it is as long as it was
whole : (ys w : List ℤ) (p : ℕ) → p ≤ length ys → length w ≡ length (take (length ys - p) (drop p ys)) → length (take p ys ++ (w ++ drop (length ys - p) (drop p ys))) ≡ length ys
whole ys w p h e =
    let n = length ys - p in
    omega (arith, h, e, length-append (take p ys) (w ++ drop n (drop p ys)), length-append w (drop n (drop p ys)), length-take p ys, length-drop n (drop p ys), length-take n (drop p ys), length-drop p ys)

-- where the places are known
module _ (c : After-min-three) where
  -- the outputs lent
  abbrev outputs : List (List ℤ)
  outputs = let a = c.args in four a.out.now a.first.now a.second.now a.third.now

  lead-place : c.args.at ≡ min c.args.at (length c.args.out.now)
  lead-place = omega (arith, c.requires.place)

  -- what is lent of them
  outs-lent : let a = c.args in
      four (take (length a.out.now - a.at) (drop a.at a.out.now))
      (take (length a.first.now - c.min-one.result) (drop c.min-one.result a.first.now))
      (take (length a.second.now - c.min-two.result) (drop c.min-two.result a.second.now))
      (take (length a.third.now - c.min-three.result) (drop c.min-three.result a.third.now))
      ≡ map (drop a.at) outputs
  outs-lent =
      let a = c.args in
      λ i. four (rest-lent a.at a.out.now lead-place i) (rest-lent a.at a.first.now c.min-one.ensures i) (rest-lent a.at a.second.now c.min-two.ensures i) (rest-lent a.at a.third.now c.min-three.ensures i)

pub block-requires : goal.block-requires
block-requires c =
    let e = (goal.at.block-requires c).After-min-three in
    let a = c.args in
    (c.requires.good, transport (λ i. Roomy (length a.samples.now) (kept_outs a.t.now) (sym (outs-lent e) i)) (part_room a.at (length a.samples.now) (a.at + length a.samples.now) (kept_outs a.t.now) (outputs e) (omega arith) c.requires.room))

pub returns : goal.returns
unfolding Kept
returns c =
    let e = (goal.at.returns c).After-min-three in
    let a = c.args in
    let at = a.at in
    let b = c.block in
    let last = b.new in
    let one = c.min-one in
    let two = c.min-two in
    let three = c.min-three in
    let l0 = whole a.out.now last.out at c.requires.place b.auto.out in
    let l1 = whole a.first.now last.first one.result (omega (arith, one.ensures)) b.auto.first in
    let l2 = whole a.second.now last.second two.result (omega (arith, two.ensures)) b.auto.second in
    let l3 = whole a.third.now last.third three.result (omega (arith, three.ensures)) b.auto.third in
    let lead = put_back at a.out.now last.out (lead-place e) refl l0 in
    let first = put_back at a.first.now last.first one.ensures refl l1 in
    let second = put_back at a.second.now last.second two.ensures refl l2 in
    let third = put_back at a.third.now last.third three.ensures refl l3 in
    record {
      took =
          transport
          (λ i. Took a.t.now a.number a.samples.now (outs-lent e i) a.store.now last.t b.result
          (four (sym lead.0 i) (sym first.0 i) (sym second.0 i) (sym third.0 i)) last.store)
          b.ensures;
      kept = (lead.1, l0, (first.1, l1, (second.1, l2, (third.1, l3, tt))));
    }
