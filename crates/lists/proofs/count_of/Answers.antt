use mathlib.Core.Path.{refl, sym, ◌∙◌}
use Prim.Native.Nat.{◌+◌}
use native.Mathlib.Omega.{arith}
use lib.ListN.{get_or}
use Rattle.lists.specs.Counting.{counted}
use Rattle.lists.proofs.Counting.{counted-within, counted-more, one-within, one_if_is}
use Rattle.lists.proofs.count_of.Goals as goal

pub loop-v-init : goal.loop-v-init
unfolding counted
loop-v-init c = refl

pub overflow_add-count : goal.overflow_add-count
overflow_add-count c =
    let a = c.args in
    let l = c.loop-v in
    let x = get_or a.values.now l.v-index 0 in
    omega (arith, l.invariant, c.from-count.ensures ∙ one_if_is x a.value, counted-within a.value a.values.now l.v-index, one-within x a.value)

pub loop-v-preserved : goal.loop-v-preserved
loop-v-preserved c =
    let a = c.args in
    let l = c.loop-v in
    (λ j. l.invariant j + (c.from-count.ensures ∙ one_if_is (get_or a.values.now l.v-index 0) a.value) j) ∙ sym (counted-more a.value a.values.now l.v-index)
