-- The list that notes leave, one after the other, is the one worked out afresh from all of them, however the take was cut. What runs is carried along: after
-- each sample the run that goes on is the last row of all.
use Rattle.std.specs.Prelude.{◌≡◌}
use mathlib.Core.List.{List, [], ◌∷◌, ◌++◌}
use Prim.Native.Nat.{ℕ, ◌-◌, ◌≤◌, ◌<◌, min}
use Rattle.std.proofs.Math.ListN.{length}
use Rattle.rules.specs.Rules.{no_note}
use Rattle.lists.specs.declared.Listing.{Listing}
use Rattle.lists.specs.Lists.{Row, row, runs, room, holding, no_place, Sheet, last_note}

-- the run that goes on is the last row of all, and has its place where there was room for it
pub record Running (room last : ℕ) (notes : List ℕ) (l : Listing) : Type 0 where
  pub others : List Row
  pub is_last : runs notes ≡ others ++ row last l.first (length notes - l.first) ∷ []
  pub began : l.first < length notes
  pub with_place : length others < room → l.place ≡ length others
  pub without_place : room ≤ length others → l.place ≡ no_place

-- the listing and the store are those of these notes, for a list that began with the store s
pub record Listed (s notes : List ℕ) (k : Sheet) : Type 0 where
  pub rows : k.listing.rows ≡ min (room (length s)) (length (runs notes))
  pub left : k.listing.left ≡ length (runs notes) - room (length s)
  pub store : k.store ≡ holding (runs notes) s
  pub running : (last_note no_note notes ≡ no_note → ⊥) → Running (room (length s)) (last_note no_note notes) notes k.listing
