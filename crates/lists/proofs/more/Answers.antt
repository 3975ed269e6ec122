use mathlib.Core.Path.{◌≡◌, refl, sym, ap, ◌∙◌}
use Prim.Native.Nat.{ℕ, ◌+◌}
use native.Mathlib.Omega.{arith}
use native.Mathlib.Nat.{le_refl}
use lib.ListN.{length, get_or, take}
use lib.Seq.{take-length}
use Rattle.lists.specs.Lists.{sheet, after_notes, last_note}
use Rattle.lists.specs.Folds.{after_stretch}
use Rattle.lists.proofs.Folds.{level-last, level-next, level-whole, kept_in, kept-length}
use Rattle.lists.proofs.more.Goals as goal

pub one_note-requires : goal.one_note-requires
one_note-requires c = omega arith

pub bounds-notes-0 : goal.bounds-notes-0
bounds-notes-0 c = let v = c.one_note.ensures c.if-one_note.true in omega (arith, v.forth)

pub stretch-requires : goal.stretch-requires
stretch-requires c = let v = c.one_note.ensures c.if-one_note.true in (c.requires.1, omega (arith, v.forth), c.requires.0)

pub returns-then-one_note : goal.returns-then-one_note
returns-then-one_note c =
    let a = c.args in
    let k = sheet a.l a.store.now in
    c.stretch.ensures
    ∙ level-whole (c.one_note.ensures c.if-one_note.true) (le_refl _) a.last a.count k
    ∙ ap (after_notes a.last a.count k) (take-length a.notes.now)

pub shape_of-store-then-one_note : goal.shape_of-store-then-one_note
shape_of-store-then-one_note c =
    let a = c.args in
    let k = sheet a.l a.store.now in
    kept-length a.last a.count (length a.notes.now) k a.notes.now (le_refl _) (c.stretch.ensures ∙ level-whole (c.one_note.ensures c.if-one_note.true) (le_refl _) a.last a.count k)

pub loop-i-init : goal.loop-i-init
unfolding after_notes last_note
loop-i-init c = (omega arith, refl, refl)

pub level-to-requires : goal.level-to-requires
level-to-requires c = omega arith

pub stretch-listing-requires : goal.stretch-listing-requires
stretch-listing-requires c =
    let a = c.args in
    let v = c.level-to.ensures in (
      kept_in a.last a.count c.loop-i.i (sheet a.l a.store.now) a.notes.now (omega arith) c.loop-i.invariant.1 c.requires.1,
      omega (arith, v.forth),
      omega (arith, v.within),
    )

pub loop-i-preserved : goal.loop-i-preserved
loop-i-preserved c =
    let a = c.args in
    let v = c.level-to.ensures in
    let k = sheet a.l a.store.now in
    let note = get_or a.notes.now c.loop-i.i 0 in (
      v.within,
      c.stretch-listing.ensures
          ∙ (λ j. after_stretch (c.loop-i.invariant.2 j) (a.count + c.loop-i.i) (a.count + c.level-to.result) note (c.loop-i.invariant.1 j))
          ∙ level-next v (le_refl _) a.last a.count k,
      sym (level-last v (le_refl _) a.last),
    )

pub shape_of-store : goal.shape_of-store
shape_of-store c =
    let a = c.args in
    kept-length a.last a.count c.loop-i.i (sheet a.l a.store.now) a.notes.now (omega arith) c.loop-i.invariant.1

pub returns : goal.returns
returns c =
    let a = c.args in
    let e : c.loop-i.i ≡ length a.notes.now = omega arith in
    c.loop-i.invariant.1
    ∙ ap (λ (m : ℕ). after_notes a.last a.count (sheet a.l a.store.now) (take m a.notes.now)) e
    ∙ ap (after_notes a.last a.count (sheet a.l a.store.now)) (take-length a.notes.now)
