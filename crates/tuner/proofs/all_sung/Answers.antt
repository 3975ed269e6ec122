use mathlib.Core.Path.{refl, subst, ◌∙◌}
use mathlib.Core.List.{◌++◌}
use Prim.Native.Nat.{◌+◌, ◌-◌, ◌*◌, ◌≤◌, ◌<◌}
use native.Mathlib.Omega.{arith}
use lib.ListN.{length, take, drop, length-append, length-drop}
use lib.Seq.{length-take-le}
use Rattle.tuner.specs.declared.Voice.{Voice}
use Rattle.tuner.specs.Following.{SangBeside}
use Rattle.tuner.proofs.Voices.{rest_more, sung-none, sang-long, sung-more}
use Rattle.tuner.proofs.all_sung.Goals as goal

pub loop-j-init : goal.loop-j-init
loop-j-init c = (c.told-outs, λ k h. refl, λ go out g. sung-none c.args.vs.now c.args.outs.now go out)

pub loop-j-preserved : goal.loop-j-preserved
loop-j-preserved c =
    let a = c.args in
    let p = c.requires in
    let j = c.loop-j.j in
    let outs = c.loop-j.outs in
    let v = c.loop-j.invariant in
    let t : j < a.chosen = c.loop-j-test.true in
    let d = c.sung in
    let o = d.new.out in
    let from = 512 * (j + 1) in
    let rest = drop (from + 512 - from) (drop from outs) in
    let sang = subst (λ (w : Voice). SangBeside a.hertz a.periods.now a.notes.now a.s.now a.b w d.result o) (v.1 j (omega arith)) d.ensures in
    let long = sang-long p.4 sang in
    let fits : from + 512 ≤ length outs = omega (arith, v.0, p.0.few, t) in (
      length-append (take from outs) (o ++ rest)
          ∙ omega (arith, length-take-le from outs (omega (arith, fits)), length-append o rest, length-drop (from + 512 - from) (drop from outs), length-drop from outs, long, fits, v.0),
      rest_more a.vs.now c.loop-j.vs d.result j v.1,
      sung-more j outs o from (from + 512 - from) (omega arith) (omega arith) t (omega (arith, c.told-vs, p.0.few, t)) fits long v.2 sang,
    )
