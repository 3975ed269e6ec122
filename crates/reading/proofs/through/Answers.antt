-- The shift rounds the lift down, which beside the sample is the curve rounded down (`lift-beside`), and what comes of it is held.
use mathlib.Core.Path.{sym, ap, ◌∙◌, subst}
use Prim.Native.Nat.{◌*◌, ◌^◌, ◌≤◌}
use lib.IntN.{ℤ, nat_abs}
use lib.Signed.{shr_z}
use mir.Syntax.{w16, w64}
use mir.Val.{SFits, to_z, of_z}
use mir.Facts.{to_z-of_z}
use Rattle.whole.specs.Words.{Bits, arg≤, is, add, add_ok, shr, ok_of}
use Rattle.rules.specs.Rules.{held, through}
use Rattle.reading.specs.Bends.{lift, lift-beside, lift-within}
use Rattle.reading.proofs.Samples.{sample}
use Rattle.reading.proofs.through.Goals.{After-lift}
use Rattle.reading.proofs.through.Goals as goal

module _ (c : After-lift) where
  here : Bits w64 (2 ^ 15) (of_z w64 c.from.result) c.args.a
  here = sample c.from.ensures c.ranges.a

  lifted : Bits w64 (2 ^ 57) (of_z w64 (shr_z (to_z w64 (of_z w64 c.lift.result)) (2 * 4096 ^ 3))) (shr_z (lift c.args.p c.args.a c.args.b c.args.q c.args.u) (2 * 4096 ^ 3))
  lifted =
      let f = c.ranges in
      let e = c.lift.ensures ∙ (λ i. lift (to_z-of_z f.p i) (to_z-of_z f.a i) (to_z-of_z f.b i) (to_z-of_z f.q i) c.args.u) in
      let ok : SFits w64 c.lift.result = record { sfits = c.lift.type_inv } in
      shr {w = w64} (2 * 4096 ^ 3) (is e (arg≤ (subst (λ (z : ℤ). nat_abs z ≤ 2 ^ 57) (sym e) (lift-within c.args.u c.requires f.p f.a f.b f.q)) ok)) (ok_of (sym e) ok)

pub overflow_add-from : goal.overflow_add-from
overflow_add-from c = let f = (goal.at.overflow_add-from c).After-lift in add_ok (here f) (lifted f) tt

pub returns : goal.returns
unfolding through
returns c =
    let f = (goal.at.returns c).After-lift in
    let a = c.args in
    to_z-of_z {w = w16} (record { sfits = c.held.type_inv }) ∙ c.held.ensures ∙ ap held ((add (here f) (lifted f) tt).reads ∙ lift-beside a.p a.a a.b a.q a.u)
