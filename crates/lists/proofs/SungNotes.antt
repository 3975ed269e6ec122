-- Laws of the notes sung: the note of a take's tone is that of its last sample.
use Rattle.std.specs.Prelude.{◌≡◌, refl, List, [], ◌∷◌, ℤ}
use Rattle.rules.specs.declared.InForce.{InForce}
use Rattle.rules.specs.Rules.{no_note, no_tone, Take, fresh_take, stepped, after, gives}
use Rattle.lists.specs.Lists.{sung_note, notes_sung, last_note}

pub fresh-sung : sung_note fresh_take.pitch.tone ≡ no_note
unfolding sung_note fresh_take no_tone
fresh-sung = refl

pub last-sung : (f : InForce) (t : Take) (xs : List ℤ) → last_note (sung_note t.pitch.tone) (notes_sung (gives f t xs)) ≡ sung_note (after f t xs).pitch.tone
unfolding last_note gives after stepped
last-sung f t [] = refl
last-sung f t (x ∷ xs) = last-sung f (stepped f t x).next xs
