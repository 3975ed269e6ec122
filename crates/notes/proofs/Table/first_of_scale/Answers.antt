use mathlib.Core.Path.{◌≡◌, sym, ◌∙◌}
use Prim.Native.Nat.{◌+◌, ◌<◌}
use native.Mathlib.Omega.{arith}
use Rattle.rules.specs.Rules.{first_note, notes}
use Rattle.rules.proofs.Table.{table-span}
use Rattle.notes.specs.Around.{as_long, none_yet, none_above}
use Rattle.notes.proofs.Table.first_of_scale.Goals as goal

pub overflow_cast-c : goal.overflow_cast-c
overflow_cast-c c = omega (arith, table-span c.requires.0.rate)

pub overflow_add-c : goal.overflow_add-c
overflow_add-c c = omega (arith, table-span c.requires.0.rate)

pub loop-place-init : goal.loop-place-init
loop-place-init c = (omega arith, none_yet)

pub returns-then-of_scale : goal.returns-then-of_scale
returns-then-of_scale c =
    let l = c.loop-place in
    let t = c.requires.0 in
    let h : l.place < notes c.args.self.hertz = omega (arith, as_long t.rate t.periods) in (
      h,
      record {
        from = omega arith;
        upto = omega arith;
        first = λ h. sym (c.of_scale.ensures _ l.invariant.0) ∙ c.if-of_scale.true;
        none_before = l.invariant.1;
      },
    )

pub loop-place-preserved : goal.loop-place-preserved
loop-place-preserved c =
    let l = c.loop-place in
    let first = first_note c.args.self.hertz in
    let off = sym (c.of_scale.ensures (first + l.place) l.invariant.0) ∙ c.if-of_scale.false in
    let next : first + l.place + 1 ≡ first + (l.place + 1) = omega arith in
    (omega arith, rw next at (none_above l.invariant.1 off))

pub returns : goal.returns
returns c =
    let l = c.loop-place in
    let t = c.requires.0 in
    let e : l.place ≡ notes c.args.self.hertz = omega (arith, as_long t.rate t.periods) in
    record { from = c.requires.1; upto = omega arith; first = λ h. absurd (omega arith); none_before = rw e at l.invariant.1 }
