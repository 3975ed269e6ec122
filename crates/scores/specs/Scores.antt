-- A list as a score: the list of a take by scale, played back as keys at its own samples in keyboard mode, gives what the scale gave. Definitions only.
use Rattle.std.specs.Prelude.{◌≡◌, cond, ◌&&◌, List, [], ◌∷◌, ◌++◌, map, ℕ, suc, ◌+◌, leb, ltb, eqb, ℤ}
use Rattle.rules.specs.declared.Settings.{Settings}
use Rattle.rules.specs.Rules.{keyboard_mode, no_note, Given}
use Rattle.rules.specs.Facts.{InRange, SampleRate}
use Rattle.keyboard.specs.Keys.{note_on, note_off}
use Rattle.history.specs.History.{Event, sample, byte, fresh_course, given_by}
use Rattle.lists.specs.Lists.{Row, runs, notes_sung}

-- the note that a list has at a sample: that of the row in which it lies, and none outside all rows
unfoldable pub listed_at : List Row → ℕ → ℕ
listed_at [] i = no_note
listed_at (r ∷ rs) i = cond (leb r.first i && ltb i (r.first + r.length)) r.note (listed_at rs i)

-- the bytes by which a key goes up, and by which one goes down; for no note there are none
unfoldable pub goes_up : (channel note : ℕ) → List ℕ
goes_up channel note = cond (eqb note no_note) [] (note_off channel ∷ note ∷ 64 ∷ [])

unfoldable pub goes_down : (channel note : ℕ) → List ℕ
goes_down channel note = cond (eqb note no_note) [] (note_on channel ∷ note ∷ 100 ∷ [])

-- the bytes from one note to the next: none where it is the same
unfoldable pub turn : (channel last note : ℕ) → List ℕ
turn channel last note = cond (eqb note last) [] (goes_up channel last ++ goes_down channel note)

-- the samples of a take from number `at` on, and before each the bytes from the note that the list had to the one that it has there: where a row ends its key goes up, and where one begins its key goes down
unfoldable pub scored : (channel : ℕ) → List Row → (last at : ℕ) → List ℤ → List Event
scored channel rows last at [] = []
scored channel rows last at (x ∷ xs) =
    let note = listed_at rows at in
    map byte (turn channel last note) ++ sample x ∷ scored channel rows note (suc at) xs

-- the same settings in keyboard mode
abbrev pub by_keys : Settings → Settings
by_keys s = record { scale = s.scale; eps = s.eps; decay = s.decay; floor = s.floor; mode = keyboard_mode; channel = s.channel }

-- what the rules give for a take by these settings, and its list
abbrev pub given_for : ℕ → Settings → List ℤ → List Given
given_for hertz s xs = given_by (fresh_course hertz s) (map sample xs)

abbrev pub list_for : ℕ → Settings → List ℤ → List Row
list_for hertz s xs = runs (notes_sung (given_for hertz s xs))

-- ---- the statement of the theorem

-- a take without keys; its list; the same take in keyboard mode, with the list played as keys at its own samples: for every sample the same is given, the sample out, the tone, and the cycles repeated and dropped
-- (the first take is by scale, or without a note; which of them, the statement need not ask)
abbrev pub BackAgain : Type 0
BackAgain =
    (hertz : ℕ) (s : Settings) (xs : List ℤ) → SampleRate hertz → InRange s
    → given_by (fresh_course hertz (by_keys s)) (scored s.channel (list_for hertz s xs) no_note 0 xs) ≡ given_for hertz s xs
