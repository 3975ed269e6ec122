-- Recordings left by a recorder that stopped, in the words of change request K9: which two sizes of a WAVE file are bad, and what they become; and what mending keeps. Definitions only.
use Rattle.std.specs.Prelude.{◌≡◌, ◌⊎◌, Bool, false, not, cond, ◌||◌, List, [], ◌∷◌, ℕ, ◌+◌, ◌-◌, ◌/◌, ◌%◌, ◌≤◌, ◌<◌, leb, ltb, eqb, length, get_or, Option, Some, None}
use Rattle.std.proofs.lemmas.List.Edits.{sets}
use Rattle.riff.specs.declared.Chunk.{Chunk}
use Rattle.riff.specs.Riff.{number_at, bytes_of, chunks, first_of, any_past, fmt_name, data_name, refused_by}
use Rattle.wave.specs.Waves.{is_wave, riff_end_of, chunks_of, no_fmt, wrong_fmt, no_data, refusal, place_of, count_of}
use Rattle.mending.specs.declared.Mending.{Mending}

-- chunks are walked as far as the file's end
abbrev pub fmt_in : List ℕ → Option Chunk
fmt_in file = first_of fmt_name (chunks file (length file))

abbrev pub data_in : List ℕ → Option Chunk
data_in file = first_of data_name (chunks file (length file))

-- ---- refusals: 20 as in K4, then 29 for a file of 2,147,483,648 bytes or more, 26 no fmt that K4 takes before the data or the end, 27 no data chunk reached
unfoldable pub unmended : List ℕ → ℕ
unmended file =
    refused_by
    ((20, not (is_wave file))
    ∷ (29, leb 2147483648 (length file))
    ∷ (26, no_fmt (fmt_in file) (data_in file) || wrong_fmt file (length file) (fmt_in file))
    ∷ (27, no_data (data_in file))
    ∷ [])

-- ---- the two sizes

-- a size that a recorder leaves: 0 or 4294967295
unfoldable pub left : ℕ → Bool
left size = eqb size 0 || eqb size 4294967295

-- the data size, of a body that begins at a place: one that was left, or that runs past the end, is taken to reach the end of the file, less one byte if that number is odd
unfoldable pub data_size : (length from size : ℕ) → ℕ
data_size length from size = let rest = length - from in cond (left size || ltb length (from + size)) (rest - rest % 2) size

-- the RIFF size: one that was left, that runs past the end, or that stops short of the mended data's end, becomes the file's length less 8
unfoldable pub riff_size : (length riff end : ℕ) → ℕ
riff_size length riff end = cond (left riff || ltb length (8 + riff) || ltb (8 + riff) end) (length - 8) riff

-- what is mended in a file of this length, with this RIFF size and a data chunk of this size at this place: each size with its place, old and new
abbrev pub sizes_of : (length riff at size : ℕ) → Mending
sizes_of length riff at size =
    let new = data_size length (at + 8) size in
    record { number = 0; riff = record { at = 4; old = riff; new = riff_size length riff (at + 8 + new) }; «data» = record { at = at + 4; old = size; new = new } }

-- a refusal
abbrev pub no_mending : ℕ → Mending
no_mending n = record { number = n; riff = record { at = 0; old = 0; new = 0 }; «data» = record { at = 0; old = 0; new = 0 } }

-- what is mended in a file
unfoldable pub mending_in : List ℕ → Option Chunk → Mending
mending_in file None = no_mending 27
mending_in file (Some d) = sizes_of (length file) (number_at file 4 4) d.at d.size

unfoldable pub mending_of : List ℕ → Mending
mending_of file = cond (eqb (unmended file) 0) (mending_in file (data_in file)) (no_mending (unmended file))

-- ---- the mended file

-- the two sizes stored, four bytes each, and no other byte; a file that is refused stays
abbrev pub mended_by : List ℕ → Mending → List ℕ
mended_by file m = sets (sets file m.riff.at (bytes_of 4 m.riff.new)) m.data.at (bytes_of 4 m.data.new)

unfoldable pub mended : List ℕ → List ℕ
mended file = cond (eqb (mending_of file).number 0) (mended_by file (mending_of file)) file

-- ---- the statements of the theorems

-- the byte at a place is none of the four from another on
abbrev pub NotOfFour : (at i : ℕ) → Type 0
NotOfFour at i = (i < at) ⊎ (at + 4 ≤ i)

-- no byte but those eight may alter: the length stays, and every byte outside the two sizes
abbrev pub OnlyTheSizes : Type 0
OnlyTheSizes =
    (file : List ℕ) → (length (mended file) ≡ length file) × ((i : ℕ) → NotOfFour (mending_of file).riff.at i → NotOfFour (mending_of file).data.at i → get_or (mended file) i 0 ≡ get_or file i 0)

-- mending twice changes nothing more
abbrev pub MendedTwice : Type 0
MendedTwice = (file : List ℕ) → mended (mended file) ≡ mended file

-- a mended file is read where its data size is even and no chunk runs past its RIFF chunk: its samples are those of the mended data
abbrev pub MendedIsRead : Type 0
MendedIsRead =
    (file : List ℕ) → unmended file ≡ 0 → (mending_of file).data.new % 2 ≡ 0 → any_past (riff_end_of (mended file)) (chunks_of (mended file)) ≡ false
    → (refusal (mended file) ≡ 0) × (place_of (mended file) ≡ (mending_of file).data.at + 4) × (count_of (mended file) ≡ (mending_of file).data.new / 2)
