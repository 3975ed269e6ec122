-- Worked lists: one table, and one statement over it, about the definitions.
use Rattle.std.specs.Prelude.{◌≡◌, List, [], ◌∷◌, ℕ, replicate}
use Rattle.rules.specs.Rules.{no_note}
use Rattle.lists.specs.Lists.{empty_listing, Sheet, sheet, after_pieces}

-- the notes of some blocks, given to a store of so many numbers, all 7; the store then, and how many runs are left out
pub record Worked : Type 0 where
  pub blocks : List (List ℕ)
  pub room : ℕ
  pub store : List ℕ
  pub left : ℕ

abbrev after : Worked → Sheet
after w = after_pieces no_note 0 (sheet empty_listing (replicate w.room 7)) w.blocks

unfoldable pub AllHold : List Worked → Type 0
AllHold [] = Unit
AllHold (w ∷ ws) = ((after w).store ≡ w.store) × ((after w).listing.left ≡ w.left) × AllHold ws

unfoldable pub lists : List Worked
lists =
    -- before and after a loss the same note is two rows; what is behind the rows stays
    record {
      blocks = (no_note ∷ 60 ∷ 60 ∷ 60 ∷ no_note ∷ 60 ∷ 62 ∷ []) ∷ [];
      room = 11;
      store = 60 ∷ 1 ∷ 3 ∷ 60 ∷ 5 ∷ 1 ∷ 62 ∷ 6 ∷ 1 ∷ 7 ∷ 7 ∷ [];
      left = 0;
    }
    -- over the border of blocks a run is one row, and the last row of a full store grows on
    ∷ record { blocks = (60 ∷ 62 ∷ []) ∷ (62 ∷ 62 ∷ []) ∷ []; room = 6; store = 60 ∷ 0 ∷ 1 ∷ 62 ∷ 1 ∷ 3 ∷ []; left = 0 }
    -- a run that is left out counts once, over the border too, and writes over no row
    ∷ record { blocks = (60 ∷ 60 ∷ 62 ∷ []) ∷ (62 ∷ 0 ∷ []) ∷ (0 ∷ 60 ∷ []) ∷ []; room = 5; store = 60 ∷ 0 ∷ 2 ∷ 7 ∷ 7 ∷ []; left = 3 }
    -- no room for a row
    ∷ record { blocks = (60 ∷ 62 ∷ []) ∷ []; room = 2; store = 7 ∷ 7 ∷ []; left = 2 }
    ∷ []
