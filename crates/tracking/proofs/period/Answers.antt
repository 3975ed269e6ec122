-- `tracking::period` meets its contract: between the ends the offset is that of the D beside the best lag (`vertex`), and nothing overflows, since it is small.
use mathlib.Core.Path.{◌≡◌, sym, ap, ◌∙◌, subst}
use mathlib.Core.Bool.{false, ◌&&◌, and-false}
use mathlib.Core.List.{List}
use Prim.Native.Nat.{ℕ, ◌+◌, ◌-◌, ◌*◌, ◌^◌, ◌<◌}
use native.Mathlib.Omega.{arith}
use borrow.Author.Tests.{lt-ltb, le-ltb}
use lib.Dec.{T, ltb}
use lib.IntN.{ℤ, pos, nat_abs, ◌+ℤ◌}
use lib.Signed.{non_neg}
use mir.Syntax.{w32, w64}
use mir.Val.{Fits, to_z, of_z}
use Rattle.whole.specs.Bounds.{near}
use Rattle.whole.specs.Words.{Bits, arg≤, num, add, add_ok}
use Rattle.rules.specs.Rules.{Sound, D, offset, period}
use Rattle.passing.specs.Distances.{Distances}
use Rattle.tracking.specs.Tracking.{place, period-at}
use Rattle.tracking.proofs.period.Goals.{After-vertex-v, then-at-eq0-via-then-at-eq0, then-at-eq0-via-else-at-eq0+then-at-eq7}
use Rattle.tracking.proofs.period.Goals as goal

-- by the rule: at an end, and between
module _ {x : Sound} {low : ℕ} {d : List ℕ} (m : Distances x low 8 d) (at : ℕ) where
  at-end : ltb 0 at && ltb at 7 ≡ false → 256 * (low + at) ≡ period x low at
  unfolding period
  at-end e = rw e (omega arith)

  -- D at the lag of a place
  here : (j L : ℕ) → j < 8 → low + j ≡ L → place d j ≡ D x L
  here j L h e = m.distance j h ∙ ap (D x) e

  between : 0 < at → at < 7 → nat_abs (pos (256 * (low + at)) +ℤ offset (place d (at - 1)) (place d at) (place d (at + 1))) ≡ period x low at
  unfolding period
  between a b =
      rw (lt-ltb 0 at a, lt-ltb at 7 b, here (at - 1) (low + at - 1) (omega arith) (omega arith), here at (low + at) (omega arith) (omega arith), here (at + 1) (low + at + 1) (omega arith) (omega arith))

pub returns-then-at-eq0 : goal.returns-then-at-eq0
returns-then-at-eq0 c x m =
    let p = c.requires in
    let at = c.args.at in
    let end : ltb 0 at && ltb at 7 ≡ false =
    elim c.then-at-eq0.branch [
      | then-at-eq0-via-then-at-eq0 w ↦ rw (le-ltb 0 at (omega (arith, w.if-at-eq0.true)))
      | then-at-eq0-via-else-at-eq0+then-at-eq7 w ↦ rw (le-ltb at 7 (omega (arith, w.if-at-eq7.true)), and-false)
    ]
    in
    period-at m p.0 p.1 p.2 (at-end m at end)

pub vertex-v-requires : goal.vertex-v-requires
vertex-v-requires c =
    let s = c in
    let at = s.args.at in
    let f = s.requires.0 in (
      f.first (at - 1) (omega arith),
      f.least (at + 1) (omega (arith, f.inside)),
      s.requires.3.small (at - 1) (omega (arith, f.inside)),
      s.requires.3.small (at + 1) (omega (arith, f.inside)),
    )

module _ (c : After-vertex-v) where
  abbrev base : ℕ
  base = 256 * (c.args.low + c.args.at)

  at-best : Bits w64 (2 ^ 18) base (pos base)
  at-best = num {n = 2 ^ 18} {z = pos base} (omega (arith, c.requires.0.inside)) tt

  beside : Bits w64 128 (of_z w64 c.vertex-v.result) c.vertex-v.result
  beside = arg≤ c.vertex-v.ensures.1 (record { sfits = c.vertex-v.type_inv })

  whole : Bits w64 (2 ^ 18 + 128) (of_z w64 (to_z w64 base +ℤ to_z w64 (of_z w64 c.vertex-v.result))) (pos base +ℤ c.vertex-v.result)
  whole = add at-best beside tt

  natural : pos (nat_abs (pos base +ℤ c.vertex-v.result)) ≡ pos base +ℤ c.vertex-v.result
  natural = near base c.vertex-v.result (omega (arith, c.vertex-v.ensures.1))

pub overflow_add-result : goal.overflow_add-result
overflow_add-result c = add_ok (at-best (goal.at.overflow_add-result c).After-vertex-v) (beside (goal.at.overflow_add-result c).After-vertex-v) tt

pub overflow_cast-result-2 : goal.overflow_cast-result-2
overflow_cast-result-2 c =
    subst (λ (z : ℤ). T (non_neg z) × Fits w32 (nat_abs z)) (natural (goal.at.overflow_cast-result-2 c).After-vertex-v ∙ sym (whole (goal.at.overflow_cast-result-2 c).After-vertex-v).reads) (tt, record { fits = omega (arith, (whole (goal.at.overflow_cast-result-2 c).After-vertex-v).size.within) })

pub returns : goal.returns
returns c x m =
    let s = c in
    period-at m s.requires.0 s.requires.1 s.requires.2
    (ap nat_abs (whole (goal.at.returns c).After-vertex-v).reads ∙ ap (λ (z : ℤ). nat_abs (pos (base (goal.at.returns c).After-vertex-v) +ℤ z)) c.vertex-v.ensures.0 ∙ between m s.args.at (omega arith) (omega (arith, s.requires.0.inside)))
