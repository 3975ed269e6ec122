use mathlib.Core.Path.{◌≡◌, sym, ◌∙◌}
use Prim.Native.Nat.{◌+◌, ◌-◌}
use native.Mathlib.Omega.{arith}
use Rattle.rules.specs.Rules.{first_note}
use Rattle.rules.proofs.Table.{table-span}
use Rattle.notes.specs.Around.{none_yet, none_below}
use Rattle.notes.proofs.Table.last_of_scale.Goals as goal

pub overflow_cast-c : goal.overflow_cast-c
overflow_cast-c c = omega (arith, table-span c.requires.0.rate)

pub overflow_add-c : goal.overflow_add-c
overflow_add-c c = omega (arith, table-span c.requires.0.rate)

pub loop-place-init : goal.loop-place-init
loop-place-init c = (omega arith, omega arith, none_yet)

pub returns-then-of_scale : goal.returns-then-of_scale
returns-then-of_scale c =
    let l = c.loop-place in
    let e : l.place ≡ l.place - 1 + 1 = omega arith in
    record {
      upto = omega arith;
      last = λ h. sym (c.of_scale.ensures _ (omega (arith, l.invariant.1, c.below-c.ensures.1))) ∙ c.if-of_scale.true;
      none_after = rw e at l.invariant.2;
    }

pub loop-place-preserved : goal.loop-place-preserved
loop-place-preserved c =
    let l = c.loop-place in
    let first = first_note c.args.self.hertz in
    let off = sym (c.of_scale.ensures (first + (l.place - 1)) (omega (arith, l.invariant.1, c.below-c.ensures.1))) ∙ c.if-of_scale.false in
    let next : first + l.place ≡ first + (l.place - 1) + 1 = omega arith in
    (omega arith, omega (arith, c.below-c.ensures.1), none_below (rw next at l.invariant.2) off)

pub returns : goal.returns
returns c =
    let l = c.loop-place in
    let e : l.place ≡ 0 = omega arith in
    record { upto = omega arith; last = λ h. absurd (omega arith); none_after = rw e at l.invariant.2 }
