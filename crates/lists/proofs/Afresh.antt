-- The list that notes leave, one after the other, is the one worked out afresh from all of them, however the take was cut. What runs is carried along: after
-- each sample the run that goes on is the last row of all.
use Rattle.std.specs.Prelude.{◌≡◌, refl, false, not, ◌&&◌, ltb, eqb, drop}
use Rattle.std.proofs.Math.Path.{sym, ap}
use Rattle.std.proofs.Common.{◌∙◌, subst, length-append, length-take, length-drop}
use mathlib.Core.List.{List, [], ◌∷◌, ◌++◌, append_assoc, append-nil, flatten}
use Prim.Native.Nat.{ℕ, suc, ◌+◌, ◌-◌, ◌*◌, ◌≤◌, ◌<◌, min}
use native.Mathlib.Omega.{arith}
use borrow.Author.Tests.{ltb-true, ltb-false, eqb-true, eqb-false, lt-ltb, le-ltb, ne_eqb}
use Rattle.std.proofs.Math.ListN.{length}
use Rattle.std.proofs.Math.Seq.{take-nil, append_snoc}
use Rattle.whole.specs.Tests.{by, cond_no, cond_case, and_no, and_right}
use Rattle.rules.specs.Rules.{no_note}
use Rattle.lists.specs.declared.Listing.{Listing}
use Rattle.lists.specs.Lists.{Row, row, runs, runs_from, room, numbers, put, holding, no_place, empty_listing, Sheet, sheet, begins, begun, listing_after, store_after, after_note, after_notes, last_note, after_pieces, IsList, PlaceIn, listed, left_out, ListingIn, HoweverCut, NothingBehind, beginnings, WithoutRoom, NoStore}
use Rattle.lists.specs.Runs.{Longer, longer}
use Rattle.lists.proofs.Runs.{run_none, run-new, run-same, lengthened-last}
use Rattle.lists.proofs.Stores.{in_room, put-before, holding-next, holding-last, holding-full, holding-length}
use Rattle.lists.proofs.Folds.{last_note-append, after_notes-length, listing_in}
use Rattle.lists.specs.Afresh.{Listed, Running}

pub listed_empty : (s : List ℕ) → Listed s [] (sheet empty_listing s)
unfolding runs_from holding last_note numbers
listed_empty s = record { rows = omega arith; left = omega arith; store = rw (take-nil (room (length s))); running = λ f. absurd (f refl) }

-- ---- the row of the run that goes on, written
module _ (s z : List ℕ) (n count : ℕ) (l : Listing) (others : List Row) (some : n ≡ no_note → ⊥) (long : length z ≡ length s) where
  abbrev last_row : Row
  last_row = row n l.first (count - l.first)

  placed : l.place ≡ length others → length others < room (length s) → put z (length others) last_row ≡ holding (others ++ last_row ∷ []) s → store_after count n l z ≡ holding (others ++ last_row ∷ []) s
  unfolding store_after
  placed p h e = rw (ne_eqb n no_note some, long, p, lt-ltb (length others) (room (length s)) h) e

  not_placed : l.place ≡ no_place → z ≡ holding (others ++ last_row ∷ []) s → store_after count n l z ≡ holding (others ++ last_row ∷ []) s
  unfolding store_after
  not_placed p e = rw (ne_eqb n no_note some, long, p, le-ltb no_place (room (length s)) (omega arith)) e

  -- a sample of a run: where the rows before it are the others, and the run is in its place
  listed-run : (notes : List ℕ) → runs notes ≡ others ++ last_row ∷ [] → last_note no_note notes ≡ n → length notes ≡ count → l.first < count
      → l.rows ≡ min (room (length s)) (length others + 1) → l.left ≡ length others + 1 - room (length s)
      → (length others < room (length s) → l.place ≡ length others) → (room (length s) ≤ length others → l.place ≡ no_place)
      → (length others < room (length s) → put z (length others) last_row ≡ holding (others ++ last_row ∷ []) s)
      → (room (length s) ≤ length others → z ≡ holding (others ++ last_row ∷ []) s)
      → Listed s notes (sheet l (store_after count n l z))
  listed-run notes is last e began rows left with_place without_place next full =
      let many : length (runs notes) ≡ length others + 1 = ap length is ∙ length-append others (last_row ∷ []) in
      record {
        rows = rows ∙ ap (min (room (length s))) (sym many);
        left = left ∙ ap (λ (m : ℕ). m - room (length s)) (sym many);
        store =
            by (ltb (length others) (room (length s)))
            (λ t. let h = ltb-true _ _ t in placed (with_place h) h (next h))
            (λ t. let h = ltb-false _ _ t in not_placed (without_place h) (full h))
            ∙ ap (λ (rs : List Row). holding rs s) (sym is);
        running = λ f. record {
          others = others;
          is_last = is ∙ (λ i. others ++ row (sym last i) l.first (sym e i - l.first) ∷ []);
          began = omega arith;
          with_place = with_place;
          without_place = without_place;
        };
      }

-- ---- one sample more

-- of the run that goes on: the last row is longer by one
grown : (notes : List ℕ) (n : ℕ) (others : List Row) (p : Row) → (n ≡ no_note → ⊥) → last_note no_note notes ≡ n → runs notes ≡ others ++ p ∷ [] → 0 < length notes → runs (notes ++ n ∷ []) ≡ others ++ longer p ∷ []
unfolding last_note
grown [] n others p some e was h = absurd (omega arith)
grown (m ∷ ns) n others p some e was h =
    let l : Longer 0 (m ∷ ns) n = run-same 0 m n ns some e in
    l.now-is ∙ lengthened-last others p l.head l.tail (sym l.was ∙ was)

module _ (s notes : List ℕ) (k : Sheet) (d : Listed s notes k) where
  one_more_lem : (n : ℕ) → length (notes ++ n ∷ []) ≡ suc (length notes)
  one_more_lem n = omega (arith, length-append notes (n ∷ []))

  the_last : (n : ℕ) → last_note no_note (notes ++ n ∷ []) ≡ n
  unfolding last_note
  the_last n = last_note-append no_note notes (n ∷ [])

  same-room : length k.store ≡ length s
  same-room = ap length d.store ∙ holding-length s (runs notes)

  listed-none : Listed s (notes ++ no_note ∷ []) k
  listed-none =
      let e : runs notes ≡ runs (notes ++ no_note ∷ []) = sym (run_none 0 notes) in
      record {
        rows = d.rows ∙ ap (λ (rs : List Row). min (room (length s)) (length rs)) e;
        left = d.left ∙ ap (λ (rs : List Row). length rs - room (length s)) e;
        store = d.store ∙ ap (λ (rs : List Row). holding rs s) e;
        running = λ f. absurd (f (the_last no_note));
      }

  listed-new : (n : ℕ) → (n ≡ no_note → ⊥) → (last_note no_note notes ≡ n → ⊥)
      → let l = begun (room (length s)) (length notes) k.listing in Listed s (notes ++ n ∷ []) (sheet l (store_after (suc (length notes)) n l k.store))
  unfolding begun
  listed-new n some other =
      let r = room (length s) in
      let m = length (runs notes) in
      let one : 1 ≡ suc (length notes) - length notes = omega arith in
      let zero-first : 0 + length notes ≡ length notes = omega arith in
      let q : Row = row n (length notes) (suc (length notes) - length notes) in
      let is : runs (notes ++ n ∷ []) ≡ runs notes ++ q ∷ [] =
      run-new 0 no_note n notes some other ∙ (λ i. runs notes ++ row n (zero-first i) (one i) ∷ [])
      in
      by (ltb k.listing.rows r)
      (λ t.
      let h : m < r = omega (arith, d.rows, ltb-true k.listing.rows r t) in
      rw t
      (listed-run s k.store n (suc (length notes)) _ (runs notes) some same-room (notes ++ n ∷ []) is (the_last n) (one_more_lem n) (omega arith)
      (omega (arith, d.rows)) (omega (arith, d.left)) (λ g. omega (arith, d.rows)) (λ g. absurd (omega arith))
      (λ g. ap (λ (z : List ℕ). put z m q) d.store ∙ holding-next s (runs notes) q g) (λ g. absurd (omega arith))))
      (λ t.
      let h : r ≤ m = omega (arith, d.rows, ltb-false k.listing.rows r t) in
      rw t
      (listed-run s k.store n (suc (length notes)) _ (runs notes) some same-room (notes ++ n ∷ []) is (the_last n) (one_more_lem n) (omega arith)
      (omega (arith, d.rows)) (omega (arith, d.left)) (λ g. absurd (omega arith)) (λ g. refl)
      (λ g. absurd (omega arith)) (λ g. d.store ∙ sym (holding-full s (runs notes) _ g))))

  without_note : (n : ℕ) → n ≡ no_note → Listed s (notes ++ n ∷ []) (after_note (last_note no_note notes) (length notes) n k)
  unfolding after_note listing_after begins store_after
  without_note n e = rw e listed-none

  listed_same : (n : ℕ) → (n ≡ no_note → ⊥) → last_note no_note notes ≡ n → Listed s (notes ++ n ∷ []) (sheet k.listing (store_after (suc (length notes)) n k.listing k.store))
  listed_same n some e =
      let r = room (length s) in
      let g : Running r (last_note no_note notes) notes k.listing = d.running (λ f. some (sym e ∙ f)) in
      let first = k.listing.first in
      let p : Row = row n first (length notes - first) in
      let q : Row = row n first (suc (length notes) - first) in
      let was : runs notes ≡ g.others ++ p ∷ [] = g.is_last ∙ ap (λ (m : ℕ). g.others ++ row m first (length notes - first) ∷ []) e in
      let more : suc (length notes - first) ≡ suc (length notes) - first = omega (arith, g.began) in
      let is : runs (notes ++ n ∷ []) ≡ g.others ++ q ∷ [] = grown notes n g.others p some e was (omega (arith, g.began)) ∙ ap (λ (m : ℕ). g.others ++ row n first m ∷ []) more in
      let many : length (runs notes) ≡ length g.others + 1 = ap length was ∙ length-append g.others (p ∷ []) in
      let held : k.store ≡ holding (g.others ++ p ∷ []) s = d.store ∙ ap (λ (rs : List Row). holding rs s) was in
      listed-run s k.store n (suc (length notes)) k.listing g.others some same-room (notes ++ n ∷ []) is (the_last n) (one_more_lem n) (omega (arith, g.began))
      (d.rows ∙ ap (min r) many) (d.left ∙ ap (λ (m : ℕ). m - r) many) g.with_place g.without_place
      (λ h. ap (λ (z : List ℕ). put z (length g.others) q) held ∙ holding-last s g.others p q h)
      (λ h. held ∙ holding-full s g.others p h ∙ sym (holding-full s g.others q h))

  -- by its note
  pub listed_next : (n : ℕ) → Listed s (notes ++ n ∷ []) (after_note (last_note no_note notes) (length notes) n k)
  unfolding after_note listing_after begins
  listed_next n =
      by (eqb n no_note)
      (λ t. without_note n (eqb-true n no_note t))
      (λ t. let some = eqb-false n no_note t in
      by (eqb n (last_note no_note notes))
      (λ u. rw (t, u) (listed_same n some (sym (eqb-true n (last_note no_note notes) u))))
      (λ u. rw (t, u, same-room) (listed-new n some (λ e. eqb-false n (last_note no_note notes) u (sym e)))))

-- ---- all samples
pub listed_more : (s notes more : List ℕ) (k : Sheet) → Listed s notes k → Listed s (notes ++ more) (after_notes (last_note no_note notes) (length notes) k more)
unfolding after_notes last_note
listed_more s notes [] k d = rw append-nil d
listed_more s notes (n ∷ more) k d =
    let e : length (notes ++ n ∷ []) ≡ suc (length notes) = omega (arith, length-append notes (n ∷ [])) in
    let l : last_note no_note (notes ++ n ∷ []) ≡ n = last_note-append no_note notes (n ∷ []) in
    subst (λ (ns : List ℕ). Listed s ns (after_notes n (suc (length notes)) (after_note (last_note no_note notes) (length notes) n k) more)) (append_snoc notes n more)
    (rw (l, e) at (listed_more s (notes ++ n ∷ []) more (after_note (last_note no_note notes) (length notes) n k) (listed_next s notes k d n)))

listed_pieces : (s notes : List ℕ) (pieces : List (List ℕ)) (k : Sheet) → Listed s notes k → Listed s (notes ++ flatten pieces) (after_pieces (last_note no_note notes) (length notes) k pieces)
unfolding after_pieces flatten
listed_pieces s notes [] k d = rw append-nil d
listed_pieces s notes (p ∷ pieces) k d =
    let e : length (notes ++ p) ≡ length notes + length p = length-append notes p in
    let l : last_note no_note (notes ++ p) ≡ last_note (last_note no_note notes) p = last_note-append no_note notes p in
    subst (λ (ns : List ℕ). Listed s ns (after_pieces (last_note (last_note no_note notes) p) (length notes + length p) (after_notes (last_note no_note notes) (length notes) k p) pieces))
    (append_assoc notes p (flatten pieces))
    (rw (l, e) at (listed_pieces s (notes ++ p) pieces (after_notes (last_note no_note notes) (length notes) k p) (listed_more s notes p k d)))

-- ---- the list
pub is-list : {s notes : List ℕ} {k : Sheet} → Listed s notes k → IsList notes s k
is-list {s} {notes} d =
    record {
      rows = d.rows ∙ sym (length-take (room (length s)) (runs notes));
      left = d.left ∙ sym (length-drop (room (length s)) (runs notes));
      store = d.store;
    }

pub however_cut : HoweverCut
unfolding last_note
however_cut pieces s = is-list (listed_pieces s [] pieces (sheet empty_listing s) (listed_empty s))

-- ---- any store
rows_grow : (n last at note : ℕ) (l : Listing) → l.rows ≤ (listing_after n last at note l).rows
unfolding listing_after begun
rows_grow n last at note l =
    cond_case (begins last note) _ l (λ (z : Listing). l.rows ≤ z.rows) (λ e. cond_case (ltb l.rows n) _ _ (λ (z : Listing). l.rows ≤ z.rows) (λ f. omega arith) (λ f. omega arith)) (λ e. omega arith)

all_grow : (last at : ℕ) (k : Sheet) (notes : List ℕ) → k.listing.rows ≤ (after_notes last at k notes).listing.rows
unfolding after_notes after_note
all_grow last at k [] = omega arith
all_grow last at k (n ∷ notes) = omega (arith, rows_grow (room (length k.store)) last at n k.listing, all_grow n (suc at) (after_note last at n k) notes)

-- a row is written before the rows so far end
behind-one : (m count note : ℕ) (l : Listing) (s : List ℕ) → l.rows ≤ m → PlaceIn l.rows l.place → drop (3 * m) (store_after count note l s) ≡ drop (3 * m) s
unfolding store_after
behind-one m count note l s h p =
    cond_case (not (eqb note no_note) && ltb l.place (room (length s))) _ s (λ (z : List ℕ). drop (3 * m) z ≡ drop (3 * m) s)
    (λ e.
    let f = ltb-true l.place (room (length s)) (and_right (not (eqb note no_note)) _ e) in
    put-before s l.place (in_room l.place (length s) f) _ m (in_rows (length s) p f h))
    (λ e. refl)
  where
    in_rows : {rows place m : ℕ} (n : ℕ) → PlaceIn rows place → place < room n → rows ≤ m → place < m
    in_rows n (listed l) f h = omega arith
    in_rows n (left_out e) f h = absurd (omega arith)

behind : (m last at : ℕ) (k : Sheet) (notes : List ℕ) → ListingIn at k.listing → (after_notes last at k notes).listing.rows ≤ m
    → drop (3 * m) (after_notes last at k notes).store ≡ drop (3 * m) k.store
unfolding after_notes after_note
behind m last at k [] i h = refl
behind m last at k (n ∷ notes) i h =
    let j = listing_in (length k.store) last at n i in
    behind m n (suc at) (after_note last at n k) notes j h
    ∙ behind-one m (suc at) n _ k.store (omega (arith, all_grow n (suc at) (after_note last at n k) notes)) j.place

pub nothing-behind : NothingBehind
nothing-behind last at notes k i = (after_notes-length last at k notes, behind (after_notes last at k notes).listing.rows last at k notes i (omega arith))

-- ---- no store
unwritten : (s : List ℕ) (count note : ℕ) (l : Listing) → room (length s) ≡ 0 → store_after count note l s ≡ s
unfolding store_after
unwritten s count note l none = cond_no _ s (and_no (not (eqb note no_note)) (le-ltb l.place (room (length s)) (omega arith)))

-- one sample, into a store without room
left_out_one : (last at note : ℕ) (k : Sheet) → room (length k.store) ≡ 0 → WithoutRoom last (note ∷ []) k (after_note last at note k)
unfolding after_note listing_after begun beginnings
left_out_one last at note k none =
    let l = k.listing in
    let r = room (length k.store) in
    by (begins last note)
    (λ b. let f : ltb l.rows r ≡ false = le-ltb l.rows r (omega arith) in
    record { store = unwritten k.store (suc at) note _ none; rows = rw (b, f); left = rw (b, f); going_on = λ e. absurd (let z : ◌≡◌ {A = ℕ} 1 0 = rw b at e in omega arith) })
    (λ b. record { store = unwritten k.store (suc at) note _ none; rows = rw b; left = rw b (omega arith); going_on = λ e. rw b })

pub no_store : NoStore
unfolding after_notes beginnings
no_store last at [] k none = record { store = refl; rows = refl; left = omega arith; going_on = λ e. refl }
no_store last at (n ∷ notes) k none =
    let one : WithoutRoom last (n ∷ []) k (after_note last at n k) = left_out_one last at n k none in
    let more : WithoutRoom n notes (after_note last at n k) (after_notes n (suc at) (after_note last at n k) notes) =
    no_store n (suc at) notes (after_note last at n k) (ap (λ (s : List ℕ). room (length s)) one.store ∙ none)
    in
    record {
      store = more.store ∙ one.store;
      rows = more.rows ∙ one.rows;
      left = omega (arith, more.left, one.left);
      going_on = λ e. more.going_on (omega arith) ∙ one.going_on (omega arith);
    }
