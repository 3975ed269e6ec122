-- Worked lists: one table, and one statement over it, about the definitions.
use Rattle.std.specs.Prelude.{refl}
use Rattle.lists.specs.Lists.{put, begins, begun, listing_after, store_after, after_note, after_notes, last_note, after_pieces}
use Rattle.lists.specs.Worked.{AllHold, lists}

pub lists_hold : AllHold lists
unfolding AllHold lists after_pieces after_notes after_note listing_after begins begun store_after put last_note
lists_hold = (refl, refl, (refl, refl, (refl, refl, (refl, refl, tt))))
