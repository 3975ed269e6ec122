-- The list of the notes sung: a row of note, first sample and length for each longest run of samples with the same wanted note. Definitions only.
-- Notes are numbers, 0 to 127, and `no_note`, 128, where there is none.
use Rattle.std.specs.Prelude.{◌≡◌, Bool, not, cond, ◌&&◌, ◌⊎◌, ℕ, suc, ◌+◌, ◌-◌, ◌*◌, ◌/◌, ◌≤◌, ◌<◌, min, ltb, eqb, length, get_or, take, drop}
use mathlib.Core.List.{List, [], ◌∷◌, ◌++◌, map, flatten}
use Rattle.rules.specs.declared.Tone.{Tone}
use Rattle.rules.specs.Rules.{no_note, Given}
use Rattle.lists.specs.declared.Listing.{Listing}

-- ---- Notes

-- the note of a sample in the list: the wanted note of its tone, and none without a period
unfoldable pub sung_note : Tone → ℕ
sung_note t = cond (eqb t.period 0) no_note t.note

-- the notes of samples, by what the rules give for each
abbrev pub notes_sung : List Given → List ℕ
notes_sung gs = map (λ (g : Given). sung_note g.tone) gs

-- ---- Rows

-- a row of the list
pub record Row : Type 0 where
  pub note : ℕ
  pub first : ℕ
  pub length : ℕ

abbrev pub row : (note first length : ℕ) → Row
row note first long = record { note = note; first = first; length = long }

-- a sample with a note, before the rows of the samples behind it: one more at the front of the first row, where that begins at the next sample with the
-- same note; else a row of its own
unfoldable pub before : (at note : ℕ) → List Row → List Row
before at note [] = row note at 1 ∷ []
before at note (r ∷ rs) = cond (eqb r.first (suc at) && eqb r.note note) (row note at (suc r.length) ∷ rs) (row note at 1 ∷ r ∷ rs)

-- the rows of samples with these notes, from sample `at` on; a sample without a note is in no row
unfoldable pub runs_from : ℕ → List ℕ → List Row
runs_from at [] = []
runs_from at (note ∷ notes) = let later = runs_from (suc at) notes in cond (eqb note no_note) later (before at note later)

-- the rows of a take, worked out afresh from the notes of all its samples
abbrev pub runs : List ℕ → List Row
runs notes = runs_from 0 notes

-- ---- What rows are

-- the note of sample number i; none outside the take
abbrev pub note_at : List ℕ → ℕ → ℕ
note_at notes i = get_or notes i no_note

-- a longest run: there is a sample in it, all have the note, and the samples beside it have not
pub record LongestRun (notes : List ℕ) (r : Row) : Type 0 where
  pub some : 0 < r.length
  pub sung : r.note ≡ no_note → ⊥
  pub same : (i : ℕ) → i < r.length → note_at notes (r.first + i) ≡ r.note
  pub ahead : (i : ℕ) → suc i ≡ r.first → note_at notes i ≡ r.note → ⊥
  pub behind : note_at notes (r.first + r.length) ≡ r.note → ⊥

-- each row a longest run, one behind the other, from a sample on
unfoldable pub LongestRuns : ℕ → List ℕ → List Row → Type 0
LongestRuns from notes [] = Unit
LongestRuns from notes (r ∷ rs) = (from ≤ r.first) × LongestRun notes r × LongestRuns (r.first + r.length) notes rs

-- a sample is in one of the rows
unfoldable pub InRow : ℕ → List Row → Type 0
InRow i [] = ⊥
InRow i (r ∷ rs) = ((r.first ≤ i) × (i < r.first + r.length)) ⊎ InRow i rs

-- the rows of a take are longest runs in order, and every sample with a note is in one
abbrev pub RowsAreRuns : Type 0
RowsAreRuns = (notes : List ℕ) → LongestRuns 0 notes (runs notes) × ((i : ℕ) → (note_at notes i ≡ no_note → ⊥) → InRow i (runs notes))

-- ---- The store

-- the most rows
abbrev pub most_rows : ℕ
most_rows = 4096

-- the rows for which there is room in a store of n numbers
abbrev pub room : ℕ → ℕ
room n = min most_rows (n / 3)

-- rows as numbers, three a row
unfoldable pub numbers : List Row → List ℕ
numbers [] = []
numbers (r ∷ rs) = r.note ∷ r.first ∷ r.length ∷ numbers rs

-- a store with a row at a place of it
unfoldable pub put : List ℕ → ℕ → Row → List ℕ
put s place r = take (3 * place) s ++ r.note ∷ r.first ∷ r.length ∷ drop (3 * place + 3) s

-- a store with the first rows at its front, as many as it has room for, and the rest of it as it was
unfoldable pub holding : List Row → List ℕ → List ℕ
holding rs s = let kept = take (room (length s)) rs in numbers kept ++ drop (3 * length kept) s

-- ---- The listing, as src/lib.rt declares it: the rows so far, the runs left out, and the place and the first sample of the run that began last

-- the place of a run that is left out
abbrev pub no_place : ℕ
no_place = most_rows

-- where a list begins
abbrev pub empty_listing : Listing
empty_listing = record { rows = 0; left = 0; place = no_place; first = 0 }

-- a listing, and the store that is lent for its rows
pub record Sheet : Type 0 where
  pub listing : Listing
  pub store : List ℕ

abbrev pub sheet : Listing → List ℕ → Sheet
sheet l s = record { listing = l; store = s }

-- a run begins with a sample that has a note, and not the note of the sample before it
unfoldable pub begins : (last note : ℕ) → Bool
begins last note = not (eqb note no_note) && not (eqb note last)

-- a run that begins at a sample has the place after the rows so far; where the store then lent has no room there, it is left out
unfoldable pub begun : (room at : ℕ) → Listing → Listing
begun room at l =
    cond (ltb l.rows room) (record { rows = l.rows + 1; left = l.left; place = l.rows; first = at })
    (record { rows = l.rows; left = l.left + 1; place = no_place; first = at })

-- the listing after sample number `at`
unfoldable pub listing_after : (room last at note : ℕ) → Listing → Listing
listing_after room last at note l = cond (begins last note) (begun room at l) l

-- the store after so many samples, the last of them with this note: the row of its run is written whole, where its place lies in the room of the store then
-- lent; nothing is read
unfoldable pub store_after : (count note : ℕ) → Listing → List ℕ → List ℕ
store_after count note l s =
    cond (not (eqb note no_note) && ltb l.place (room (length s))) (put s l.place (row note l.first (count - l.first))) s

-- what one sample more makes of both: sample number `at`, its note, and the note of the sample before it
unfoldable pub after_note : (last at note : ℕ) → Sheet → Sheet
after_note last at note k =
    let l = listing_after (room (length k.store)) last at note k.listing in
    sheet l (store_after (suc at) note l k.store)

-- what the notes of samples make of both, one after the other, from sample `at` on
unfoldable pub after_notes : (last at : ℕ) → Sheet → List ℕ → Sheet
after_notes last at k [] = k
after_notes last at k (note ∷ notes) = after_notes note (suc at) (after_note last at note k) notes

-- the note of the last sample; `last` where there is none
unfoldable pub last_note : ℕ → List ℕ → ℕ
last_note last [] = last
last_note last (note ∷ notes) = last_note note notes

-- ---- A listing that is kept

-- the place of a row, or none
pub data PlaceIn (rows place : ℕ) : Type 0 where
  listed : place < rows → PlaceIn rows place
  left_out : place ≡ no_place → PlaceIn rows place

-- what is asked of a listing that is kept, after so many samples: each run has a sample of its own
pub record ListingIn (count : ℕ) (l : Listing) : Type 0 where
  pub rows : l.rows ≤ most_rows
  pub runs : l.rows + l.left ≤ count
  pub place : PlaceIn l.rows l.place
  pub first : l.first ≤ count

-- ---- The list of a take

-- the pieces of a take, one after the other, each with the store as it was left
unfoldable pub after_pieces : (last at : ℕ) → Sheet → List (List ℕ) → Sheet
after_pieces last at k [] = k
after_pieces last at k (notes ∷ pieces) = after_pieces (last_note last notes) (at + length notes) (after_notes last at k notes) pieces

-- the list of these notes in a store: the first of their rows, as many as it has room for, and nothing else touched; the others are left out
pub record IsList (notes s : List ℕ) (k : Sheet) : Type 0 where
  pub rows : k.listing.rows ≡ length (take (room (length s)) (runs notes))
  pub left : k.listing.left ≡ length (drop (room (length s)) (runs notes))
  pub store : k.store ≡ holding (runs notes) s

-- from the beginning of a list on, however the take is cut, the list is the one worked out afresh from all its notes
abbrev pub HoweverCut : Type 0
HoweverCut = (pieces : List (List ℕ)) (s : List ℕ) → IsList (flatten pieces) s (after_pieces no_note 0 (sheet empty_listing s) pieces)

-- ---- Any store

-- whatever listing may be kept, and whatever store is lent, the store is left as long as it was, and behind the rows so far it is left as it was
abbrev pub NothingBehind : Type 0
NothingBehind =
    (last at : ℕ) (notes : List ℕ) (k : Sheet) → ListingIn at k.listing
    → let after = after_notes last at k notes in
    (length after.store ≡ length k.store) × (drop (3 * after.listing.rows) after.store ≡ drop (3 * after.listing.rows) k.store)

-- ---- No store

-- how many runs begin with these notes
unfoldable pub beginnings : (last : ℕ) → List ℕ → ℕ
beginnings last [] = 0
beginnings last (note ∷ notes) = cond (begins last note) 1 0 + beginnings note notes

-- what a store without room for a row leaves: itself, the rows so far, every run that begins left out, and a run that only goes on as it was
pub record WithoutRoom (last : ℕ) (notes : List ℕ) (k after : Sheet) : Type 0 where
  pub store : after.store ≡ k.store
  pub rows : after.listing.rows ≡ k.listing.rows
  pub left : after.listing.left ≡ k.listing.left + beginnings last notes
  pub going_on : beginnings last notes ≡ 0 → after.listing ≡ k.listing

abbrev pub NoStore : Type 0
NoStore = (last at : ℕ) (notes : List ℕ) (k : Sheet) → room (length k.store) ≡ 0 → WithoutRoom last notes k (after_notes last at k notes)
