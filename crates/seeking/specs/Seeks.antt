-- A WAVE file that is sought piece by piece: what is wanted of it, what each piece adds, and what the seek comes to. Definitions only.
use Rattle.std.specs.Prelude.{Bool, not, cond, ◌||◌, List, ℕ, ◌+◌, ◌/◌, ◌%◌, ◌^◌, min, leb, ltb, eqb, length, Option, Some, None, unwrap_or}
use Rattle.riff.specs.declared.Chunk.{Chunk}
use Rattle.riff.specs.declared.Walk.{Walk}
use Rattle.riff.specs.Riff.{number_at, body, fmt_name, data_name}
use Rattle.riff.specs.Walks.{set_out, stepped}
use Rattle.wave.specs.declared.WaveTake.{WaveTake}
use Rattle.wave.specs.Waves.{is_wave}
use Rattle.wave.specs.Judged.{fields_rate, whole_fmt, judged}
use Rattle.mending.specs.declared.Mending.{Mending}
use Rattle.mending.specs.Mendings.{no_mending}
use Rattle.mending.specs.Decided.{reached, decided}
use Rattle.seeking.specs.declared.Place.{Place}
use Rattle.seeking.specs.declared.Piece.{Piece}
use Rattle.seeking.specs.declared.Seek.{Seek}

-- ---- a seek and its walk

-- yes and no as numbers: 1 and 0; any number but 0 is yes
abbrev pub flag_of : Bool → ℕ
flag_of b = cond b 1 0

abbrev pub is_set : ℕ → Bool
is_set n = not (eqb n 0)

-- the chunk of a name at a place, if it was found
abbrev pub chunk_in : (name : ℕ) → Place → Option Chunk
chunk_in name p = cond (eqb p.found 0) None (Some (record { at = p.at; name = name; size = p.size }))

-- a place after a walk: of a chunk that was found, or as it is
abbrev pub place_after : Place → Option Chunk → Place
place_after p None = record { at = p.at; size = p.size; found = 0 }
place_after p (Some c) = record { at = c.at; size = c.size; found = 1 }

-- a rate as a number: 0 is none
abbrev pub rate_in : ℕ → Option ℕ
rate_in hertz = cond (eqb hertz 0) None (Some hertz)

-- the walk of a seek, which stands where bytes are wanted
abbrev pub walk_of : Seek → Walk
walk_of s = record { at = s.wanted.at; fmt = chunk_in fmt_name s.fmt; «data» = chunk_in data_name s.data; past = is_set s.past }

-- a seek with a walk, and what it asks for
abbrev pub walked : Seek → Walk → Piece → Seek
walked s w p =
    record { length = s.length; mends = s.mends; number = s.number; riff = s.riff; hertz = s.hertz; fmt = place_after s.fmt w.fmt; «data» = place_after s.data w.data; past = flag_of w.past; wanted = p }

-- ---- what is wanted

abbrev pub no_place : Place
no_place = record { at = 0; size = 0; found = 0 }

abbrev pub no_piece : Piece
no_piece = record { at = 0; count = 0 }

-- a seek of which no byte was given: it is refused by 20
abbrev pub fresh : (length mends : ℕ) → Piece → Seek
fresh length mends p = record { length = length; mends = mends; number = 20; riff = 0; hertz = 0; fmt = no_place; «data» = no_place; past = 0; wanted = p }

-- the end of the walk: a take's is the RIFF chunk's or the file's, a mending's the file's; a file that is too long to be mended is not walked
unfoldable pub end_of : (length mends riff : ℕ) → ℕ
end_of length mends riff = cond (eqb mends 0) (min (8 + riff) length) (cond (leb 2147483648 length) 0 length)

-- what a walk asks for: the eight bytes of the next chunk; behind the last the sixteen of its fmt, where they lie before the end; then nothing
abbrev pub asks_fmt : Option Chunk → (end : ℕ) → Piece
asks_fmt None end = no_piece
asks_fmt (Some fmt) end = cond (whole_fmt (Some fmt) end) (record { at = body fmt; count = 16 }) no_piece

unfoldable pub asks : Walk → (end : ℕ) → Piece
asks w end = cond (leb (w.at + 8) end) (record { at = w.at; count = 8 }) (asks_fmt w.fmt end)

-- a seek whose walk has come so far
abbrev pub walked_on : Seek → Walk → Seek
walked_on s w = record (walked s w (asks w (end_of s.length s.mends s.riff))) { number = 0; hertz = 0 }

-- at first the file's 12 bytes, if it has so many (no file has 2 ^ 63); it is refused by 20 until they were seen
unfoldable pub begun : (length mends : ℕ) → Seek
begun length mends = fresh length mends (cond (ltb length 12 || leb (2 ^ 63) length) no_piece (record { at = 0; count = 12 }))

-- ---- what a piece adds

-- the first bytes
unfoldable pub headed : Seek → List ℕ → Seek
headed s bytes =
    let seek = fresh s.length s.mends no_piece in
    cond (is_wave bytes) (walked_on (record seek { riff = number_at bytes 4 4 }) set_out) seek

-- the name and the size of a chunk; a walk that does not go on stays
unfoldable pub stepped_on : Seek → List ℕ → Seek
stepped_on s bytes =
    let end = end_of s.length s.mends s.riff in
    cond (leb (2 ^ 63) s.length || not (leb (s.wanted.at + 8) end)) s
    (walked_on s (stepped end (walk_of s) (record { at = s.wanted.at; name = number_at bytes 0 4; size = number_at bytes 4 4 })))

-- the fields of the fmt
abbrev pub rated : Seek → List ℕ → Seek
rated s bytes = record (walked s (walk_of s) no_piece) { hertz = unwrap_or (fields_rate bytes 0) 0 }

-- by how many bytes were wanted; where there are not as many, nothing changes
unfoldable pub given_to : Seek → List ℕ → Seek
given_to s bytes =
    let n = length bytes in
    cond (eqb n s.wanted.count) (cond (eqb n 12) (headed s bytes) (cond (eqb n 8) (stepped_on s bytes) (cond (eqb n 16) (rated s bytes) s))) s

-- ---- what it comes to

-- the rate by which the file is judged: none as well beside an odd data size, also of data that was not found
abbrev pub judged_rate : Seek → Option ℕ
judged_rate s = cond (eqb (s.data.size % 2) 1) None (rate_in s.hertz)

-- the number that the file is refused by, as far as it was given
unfoldable pub number_of : Seek → ℕ
number_of s = cond (eqb s.number 0) (judged (walk_of s) (judged_rate s) (8 + s.riff) s.length) s.number

abbrev pub no_take : ℕ → WaveTake
no_take n = record { number = n; hertz = 0; at = 0; count = 0 }

-- the take that was found; data that does not lie in the file, of which no seek tells that was begun, is none
abbrev pub take_in : Seek → Option Chunk → WaveTake
take_in s None = no_take 23
take_in s (Some c) = cond (reached (Some c) s.length) (record { number = 0; hertz = s.hertz; at = body c; count = c.size / 2 }) (no_take 23)

unfoldable pub found_in : Seek → WaveTake
found_in s = cond (eqb (number_of s) 0) (take_in s (chunk_in data_name s.data)) (no_take (number_of s))

-- what is mended
unfoldable pub mended_in : Seek → Mending
mended_in s = cond (eqb s.number 0) (decided (walk_of s) (rate_in s.hertz) s.riff s.length) (no_mending s.number)
