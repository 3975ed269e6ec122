use mathlib.Core.Path.{◌≡◌, sym, ap, ◌∙◌, subst}
use Prim.Native.Nat.{◌+◌}
use native.Mathlib.Omega.{arith}
use native.Mathlib.Numerals.{add-one}
use Rattle.std.proofs.Common.{rules}
use lib.IntN.{pos}
use lib.ListN.{get_or, set, length-set}
use lib.Seq.{paste, paste-suc}
use mir.Syntax.{w16}
use mir.Val.{SFits, to_z, of_z}
use mir.Facts.{to_z-of_z}
use Rattle.ages.specs.Ages.{samples-put}
use Rattle.copying.proofs.lay.Goals as goal

pub loop-i-preserved : goal.loop-i-preserved
loop-i-preserved c =
    let l = c.loop-i in
    let a = c.args in
    let x = get_or a.xs.now l.i (pos 0) in
    let f : SFits w16 x = search rules in
    let e : to_z w16 (of_z w16 x) ≡ x = to_z-of_z f in (
      length-set l.into (a.from + l.i) (to_z w16 (of_z w16 x)) ∙ l.invariant.0,
      (λ n. set (l.invariant.1 n) (a.from + l.i) (e n))
          ∙ paste-suc a.into.now a.from a.xs.now l.i (pos 0) (omega arith) (omega arith)
          ∙ ap (paste a.into.now a.from a.xs.now) (sym (add-one l.i)),
      λ r. samples-put l.into (a.from + l.i) (to_z w16 (of_z w16 x)) (subst (SFits w16) (sym e) f) (omega arith) (l.invariant.2 r),
    )
