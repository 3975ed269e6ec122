-- Laws of what notes make of a listing and its store: in two calls as in one, a stretch of equal notes at once, and a listing that may be kept is left so.
use Rattle.std.specs.Prelude.{◌≡◌, List, ◌++◌, ℕ, ◌+◌, ◌-◌, ◌≤◌, ◌<◌, length, get_or, take, replicate}
use Rattle.lists.specs.Lists.{room, Sheet, sheet, listing_after, store_after}

-- what a stretch of notes leaves that ends before sample `to`
unfoldable pub after_stretch : (last at to note : ℕ) → Sheet → Sheet
after_stretch last at to note k =
    let l = listing_after (room (length k.store)) last at note k.listing in
    sheet l (store_after to note l k.store)

-- the samples from one to before another, the first of n, have one note
pub record Level (notes : List ℕ) (n from to : ℕ) : Type 0 where
  pub forth : from < to
  pub within : to ≤ n
  pub level : take to notes ≡ take from notes ++ replicate (to - from) (get_or notes from 0)

-- four samples with a note
pub record Four (notes : List ℕ) (at note : ℕ) : Type 0 where
  pub first : get_or notes at 0 ≡ note
  pub second : get_or notes (at + 1) 0 ≡ note
  pub third : get_or notes (at + 2) 0 ≡ note
  pub fourth : get_or notes (at + 3) 0 ≡ note
