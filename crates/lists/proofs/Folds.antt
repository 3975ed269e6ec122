-- Laws of what notes make of a listing and its store: in two calls as in one, a stretch of equal notes at once, and a listing that may be kept is left so.
use Rattle.std.specs.Prelude.{◌≡◌, refl, false, not, List, [], ◌∷◌, ◌++◌, ℕ, zero, suc, ◌+◌, ◌-◌, ◌≤◌, ◌<◌, ltb, eqb, length, get_or, take, replicate}
use Rattle.std.proofs.Common.{sym, ap, ◌∙◌, subst, append_assoc, append-nil, add-one, arith, ltb-true, eq-eqb, length-take-le, take-suc}
use Rattle.std.proofs.lemmas.List.{replicate-append-replicate}
use Rattle.whole.specs.Tests.{cond_case, cond_no, and_no}
use Rattle.rules.specs.Rules.{no_note}
use Rattle.lists.specs.declared.Listing.{Listing}
use Rattle.lists.specs.Lists.{room, no_place, empty_listing, Sheet, sheet, begins, begun, listing_after, store_after, after_note, after_notes, last_note, PlaceIn, listed, left_out, ListingIn}
use Rattle.lists.proofs.Stores.{store_after-length, store_after-twice}
use Rattle.lists.specs.Folds.{Four, Level, after_stretch}

-- ---- in two calls as in one
pub last_note-append : (last : ℕ) (xs ys : List ℕ) → last_note last (xs ++ ys) ≡ last_note (last_note last xs) ys
unfolding last_note
last_note-append last [] ys = refl
last_note-append last (n ∷ xs) ys = last_note-append _ xs ys

-- of samples with one note
last_note-level : (last note n : ℕ) → last_note last (replicate (suc n) note) ≡ note
unfolding last_note
last_note-level last note zero = refl
last_note-level last note (suc n) = last_note-level note note n

pub after_notes-append : (last at : ℕ) (k : Sheet) (xs ys : List ℕ) → after_notes last at k (xs ++ ys) ≡ after_notes (last_note last xs) (at + length xs) (after_notes last at k xs) ys
unfolding after_notes last_note
after_notes-append last at k [] ys = let e : at ≡ at + 0 = omega arith in ap (λ (n : ℕ). after_notes last n k ys) e
after_notes-append last at k (n ∷ xs) ys =
    let e : at + suc (length xs) ≡ suc at + length xs = omega arith in
    rw e (after_notes-append _ (suc at) (after_note last at n k) xs ys)

-- ---- a stretch of equal notes: its run begins once, and its row is written once
pub stays : (last : ℕ) → begins last last ≡ false
unfolding begins
stays last = and_no (not (eqb last no_note)) (rw (eq-eqb last last refl))

pub still : (room note at : ℕ) (l : Listing) → listing_after room note at note l ≡ l
unfolding listing_after
still room note at l = cond_no _ l (stays note)

pub stretch_is : (last at n note : ℕ) (k : Sheet) → after_notes last at k (replicate (suc n) note) ≡ after_stretch last at (at + suc n) note k
unfolding after_notes after_stretch after_note
stretch_is last at zero note k =
    let e : suc at ≡ at + 1 = omega arith in
    ap (λ (m : ℕ). after_stretch last at m note k) e
stretch_is last at (suc n) note k =
    let l = listing_after (room (length k.store)) last at note k.listing in
    let s = store_after (suc at) note l k.store in
    let e : suc at + suc n ≡ at + suc (suc n) = omega arith in
    let same : listing_after (room (length s)) note (suc at) note l ≡ l = still (room (length s)) note (suc at) l in
    stretch_is note (suc at) n note (after_note last at note k)
    ∙ (λ i. sheet (same i) (store_after (e i) note (same i) s))
    ∙ ap (sheet l) (store_after-twice (suc at) (at + suc (suc n)) note l k.store)

module _ (notes : List ℕ) (n from : ℕ) (h : n ≤ length notes) where
  -- one sample more with that note
  longer-level : (to : ℕ) → from ≤ to → to < n → get_or notes to 0 ≡ get_or notes from 0 → take to notes ≡ take from notes ++ replicate (to - from) (get_or notes from 0) → Level notes n from (to + 1)
  longer-level to f l e v =
      let note = get_or notes from 0 in
      let m : to - from + 1 ≡ to + 1 - from = omega arith in
      record {
        forth = omega arith;
        within = omega arith;
        level =
            ap (λ (j : ℕ). take j notes) (add-one to)
            ∙ take-suc notes to 0 (omega arith)
            ∙ (λ i. v i ++ e i ∷ [])
            ∙ append_assoc (take from notes) (replicate (to - from) note) (note ∷ [])
            ∙ ap (λ (r : List ℕ). take from notes ++ r) (replicate-append-replicate (to - from) 1 note ∙ ap (λ (j : ℕ). replicate j note) m);
      }

  pub level-one : from < n → Level notes n from (from + 1)
  level-one l = let z : from - from ≡ 0 = omega arith in longer-level from (omega arith) l refl (rw z (sym (append-nil (take from notes))))

  pub level-more : (to : ℕ) → Level notes n from to → to < n → get_or notes to 0 ≡ get_or notes from 0 → Level notes n from (to + 1)
  level-more to v l e = longer-level to (omega (arith, v.forth)) l e v.level

  pub level-four : (to : ℕ) → Level notes n from to → to + 4 ≤ n → Four notes to (get_or notes from 0) → Level notes n from (to + 4)
  level-four to v l q =
      let two : to + 1 + 1 ≡ to + 2 = omega arith in
      let three : to + 2 + 1 ≡ to + 3 = omega arith in
      let four : to + 3 + 1 ≡ to + 4 = omega arith in
      let a = level-more to v (omega arith) q.first in
      let b = level-more (to + 1) a (omega arith) q.second in
      let c = level-more (to + 2) (rw two at b) (omega arith) q.third in
      rw four at (level-more (to + 3) (rw three at c) (omega arith) q.fourth)

module _ {notes : List ℕ} {n from to : ℕ} (v : Level notes n from to) (h : n ≤ length notes) where
  abbrev level-note : ℕ
  level-note = get_or notes from 0

  split : take to notes ≡ take from notes ++ replicate (suc (to - from - 1)) level-note
  split = let e : to - from ≡ suc (to - from - 1) = omega (arith, v.forth) in v.level ∙ ap (λ (m : ℕ). take from notes ++ replicate m level-note) e

  pub level-last : (last : ℕ) → last_note last (take to notes) ≡ level-note
  level-last last = ap (last_note last) split ∙ last_note-append last (take from notes) _ ∙ last_note-level _ level-note (to - from - 1)

  pub level-next : (last count : ℕ) (k : Sheet)
      → after_stretch (last_note last (take from notes)) (count + from) (count + to) level-note (after_notes last count k (take from notes)) ≡ after_notes last count k (take to notes)
  level-next last count k =
      let before = take from notes in
      let l : length before ≡ from = length-take-le from notes (omega (arith, v.forth, v.within)) in
      let e : count + from + suc (to - from - 1) ≡ count + to = omega (arith, v.forth) in
      sym (
      ap (after_notes last count k) split
      ∙ after_notes-append last count k before (replicate (suc (to - from - 1)) level-note)
      ∙ ap (λ (m : ℕ). after_notes (last_note last before) (count + m) (after_notes last count k before) (replicate (suc (to - from - 1)) level-note)) l
      ∙ stretch_is (last_note last before) (count + from) (to - from - 1) level-note (after_notes last count k before)
      ∙ ap (λ (m : ℕ). after_stretch (last_note last before) (count + from) m level-note (after_notes last count k before)) e)

-- all of them at once
pub level-whole : {notes : List ℕ} {n : ℕ} → Level notes n 0 n → n ≤ length notes → (last count : ℕ) (k : Sheet)
    → after_stretch last count (count + n) (get_or notes 0 0) k ≡ after_notes last count k (take n notes)
unfolding after_notes last_note
level-whole {notes} {n} v h last count k =
    let e : count ≡ count + 0 = omega arith in
    ap (λ (m : ℕ). after_stretch last m (count + n) (get_or notes 0 0) k) e ∙ level-next v h last count k

-- ---- the store stays as long as it was
pub after_notes-length : (last at : ℕ) (k : Sheet) (notes : List ℕ) → length (after_notes last at k notes).store ≡ length k.store
unfolding after_notes after_note
after_notes-length last at k [] = refl
after_notes-length last at k (n ∷ notes) = after_notes-length n (suc at) (after_note last at n k) notes ∙ store_after-length (suc at) n _ k.store

-- ---- what is kept
pub empty_in : ListingIn 0 empty_listing
empty_in = record { rows = omega arith; runs = omega arith; place = left_out refl; first = omega arith }

-- a place behind all rows is none
pub no_place_lem : {rows place : ℕ} → rows ≤ place → PlaceIn rows place → place ≡ no_place
no_place_lem h (listed l) = omega arith
no_place_lem h (left_out e) = e

pub begun_in : (n at : ℕ) {l : Listing} → ListingIn at l → ListingIn (suc at) (begun (room n) at l)
unfolding begun
begun_in n at {l} i =
    cond_case (ltb l.rows (room n)) _ _ (ListingIn (suc at))
    (λ e.
    let h : l.rows < room n = ltb-true l.rows (room n) e in
    record { rows = omega arith; runs = omega (arith, i.runs); place = listed (omega arith); first = omega arith })
    (λ e. record { rows = i.rows; runs = omega (arith, i.runs); place = left_out refl; first = omega arith })

pub later_in : {m n : ℕ} {l : Listing} → m ≤ n → ListingIn m l → ListingIn n l
later_in h i = record { rows = i.rows; runs = omega (arith, i.runs); place = i.place; first = omega (arith, i.first) }

pub listing_in : (n last at note : ℕ) {l : Listing} → ListingIn at l → ListingIn (suc at) (listing_after (room n) last at note l)
unfolding listing_after
listing_in n last at note {l} i = cond_case (begins last note) _ l (ListingIn (suc at)) (λ e. begun_in n at i) (λ e. later_in (omega arith) i)

-- a run that goes on has begun
pub first-within : (n last at note : ℕ) (l : Listing) → l.first ≤ at → (listing_after n last at note l).first ≤ at
unfolding listing_after begun
first-within n last at note l h =
    cond_case (begins last note) _ l (λ (z : Listing). z.first ≤ at) (λ e. cond_case (ltb l.rows n) _ _ (λ (z : Listing). z.first ≤ at) (λ f. omega arith) (λ f. omega arith)) (λ e. h)

pub after_notes_in : (last at : ℕ) (k : Sheet) (notes : List ℕ) → ListingIn at k.listing → ListingIn (at + length notes) (after_notes last at k notes).listing
unfolding after_notes after_note
after_notes_in last at k [] i = later_in (omega arith) i
after_notes_in last at k (n ∷ notes) i = later_in (omega arith) (after_notes_in n (suc at) (after_note last at n k) notes (listing_in (length k.store) last at n i))

-- in terms of the first i notes
module _ (last count i : ℕ) (k : Sheet) (notes : List ℕ) {l : Listing} {s : List ℕ} (h : i ≤ length notes) (e : sheet l s ≡ after_notes last count k (take i notes)) where
  pub kept_in : ListingIn count k.listing → ListingIn (count + i) l
  kept_in p =
      let n : length (take i notes) ≡ i = length-take-le i notes h in
      subst (ListingIn (count + i)) (sym (ap (λ (z : Sheet). z.listing) e)) (rw n at (after_notes_in last count k (take i notes) p))

  pub kept-length : length s ≡ length k.store
  kept-length = ap (λ (z : Sheet). length z.store) e ∙ after_notes-length last count k (take i notes)
