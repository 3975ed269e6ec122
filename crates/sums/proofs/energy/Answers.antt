use Rattle.std.proofs.Common.{◌≡◌, sym, ap, ◌∙◌, ℕ, ◌+◌, ◌-◌, ◌<◌, length, take, drop, get_or-drop, length-drop, length-take-le, ◌≤◌, pos, ℤ, List, arith, rules, to_z-of_z, SFits}
use Rattle.std.proofs.lemmas.List.{get_or-take}
use Rattle.std.specs.Int.{w16}
use Rattle.whole.specs.Sums.{adds, fold-zero, fold_step}
use Rattle.whole.specs.Numbers.{total}
use Rattle.rules.specs.Facts.{value_at}
use Rattle.rules.specs.Rules.{sq}
use Rattle.sums.specs.Direct.{oldest_squares}
use Rattle.sums.proofs.energy.Goals as goal

pub loop-x-init : goal.loop-x-init
loop-x-init c = (sym (fold-zero adds _), omega arith)

-- the part that the loop goes over, as long as `count`, and its elements
module _ (s : List ℤ) (count : ℕ) (few : count ≤ length s) where
  abbrev from : ℕ
  from = length s - count

  abbrev part : List ℤ
  part = take (length s - from) (drop from s)

  long : length part ≡ count
  long = length-take-le (length s - from) (drop from s) (omega (arith, length-drop from s)) ∙ omega arith

  element : (i : ℕ) → i < length part → value_at part i ≡ value_at s (from + i)
  element i h = get_or-take (length s - from) (drop from s) i (pos 0) (omega (arith, long)) ∙ get_or-drop from s i (pos 0)

pub loop-x-preserved : goal.loop-x-preserved
loop-x-preserved c =
    let l = c.loop-x in
    let s = c.args.s.now in
    let n = c.args.count in
    let f : SFits w16 (value_at (part s n c.requires.0) l.x-index) = search rules in
    let e : c.square-sum.result ≡ sq (value_at s (length s - n + l.x-index)) = c.square-sum.ensures.0 ∙ ap sq (to_z-of_z f ∙ element s n c.requires.0 l.x-index c.loop-x-test.true) in
    ((λ j. l.invariant.0 j + e j) ∙ sym (fold_step adds (λ (k : ℕ). sq (value_at s (length s - n + k))) l.x-index), omega arith)

pub returns : goal.returns
returns c =
    let s = c.args.s.now in
    let n : c.loop-x.x-index ≡ c.args.count = omega (arith, long s c.args.count c.requires.0) in
    c.loop-x.invariant.0
    ∙ ap (total (λ (k : ℕ). sq (value_at s (length s - c.args.count + k)))) n
    ∙ oldest_squares s c.args.count (omega arith)
