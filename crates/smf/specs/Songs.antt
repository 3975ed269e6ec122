-- A Standard MIDI File 1.0, one byte after the other: its header, its chunks, and the events of its tracks. Definitions only.
-- Numbers of a header have the greatest byte first.
-- `phase` is what the next byte is of: 0 the header's name, 1 its length, 2 the format, 3 how many tracks, 4 the division, 5 the rest of the header, 6 a chunk's name, 7 its size, 8 a track, 9 the body of another chunk.
-- `whole` is the track's, of a byte of a track, and else 0.
-- Refusals: 30 no Standard MIDI File, 31 a format that is not 0 or 1, 32 a division that does not say how long a tick is, 33 a header that is short, or a file that ends too early; and those of tracks.
use Rattle.std.specs.Prelude.{Bool, false, not, cond, ◌&&◌, ◌||◌, ℕ, ◌+◌, ◌-◌, ◌*◌, ◌/◌, ◌%◌, ltb, eqb}
use Rattle.tracks.specs.declared.Track.{Track}
use Rattle.smf.specs.declared.Head.{Head}
use Rattle.smf.specs.declared.Song.{Song}
use Rattle.tracks.specs.Tracks as tracks

-- a file of which no byte was read: the four bytes of a name come
abbrev pub unread : Song
unread = record { number = 0; whole = 0; phase = 0; value = 0; count = 4; left = 0; name = 0; head = record { format = 0; declared = 0; division = 0; tracks = 0 }; track = tracks.begun }

-- the file, refused by a number
abbrev pub refused : Song → ℕ → Song
refused s number = record s { number = number; whole = 0 }

-- a number of so many bytes comes
abbrev pub asks : Song → (phase count : ℕ) → Song
asks s phase count = record s { number = 0; whole = 0; phase = phase; value = 0; count = count }

-- so much of it is known, and so many bytes are still to come
abbrev pub counts : Song → (value count : ℕ) → Song
counts s value count = record s { number = 0; whole = 0; value = value; count = count }

-- so many bytes of a body come
abbrev pub leaves : Song → (phase left : ℕ) → Song
leaves s phase left = record s { number = 0; whole = 0; phase = phase; value = 0; count = 0; left = left }

-- a chunk of this name, whose size comes
abbrev pub named : Song → ℕ → Song
named s name = record s { number = 0; whole = 0; phase = 7; value = 0; count = 4; left = 0; name = name }

-- with this header, another number of so many bytes comes
abbrev pub headed : Song → Head → (phase count : ℕ) → Song
headed s head phase count = record s { number = 0; whole = 0; phase = phase; value = 0; count = count; head = head }

-- tracks are counted as far as a header can declare them
unfoldable pub one_more : ℕ → ℕ
one_more n = cond (ltb n 65535) (n + 1) n

-- a track more begins, with so many bytes
abbrev pub tracked : Song → ℕ → Song
tracked s left = record s { number = 0; whole = 0; phase = 8; value = 0; count = 0; left = left; head = record (s.head) { tracks = one_more s.head.tracks }; track = tracks.begun }

-- a byte of a track was read
abbrev pub plays : Song → (t : Track) → (phase count left : ℕ) → Song
plays s t phase count left = record s { number = 0; whole = t.whole; phase = phase; value = 0; count = count; left = left; track = t }

-- ---- The header

-- ticks a quarter note, 1 to 32767; or, of 32768 and more, 256 less the high byte are frames a second, 24, 25, 29 or 30, and the low byte, not 0, ticks a frame
abbrev pub filmed : ℕ → Bool
filmed frames = eqb frames 24 || eqb frames 25 || eqb frames 29 || eqb frames 30

unfoldable pub divides : ℕ → Bool
divides v = cond (ltb v 32768) (not (eqb v 0)) (cond (ltb 65535 v) false (filmed (256 - v / 256) && not (eqb (v % 256) 0)))

-- behind the body of a chunk, or the rest of a header, that has so many bytes: the next chunk's name
unfoldable pub skips : Song → (phase left : ℕ) → Song
skips s phase left = cond (eqb left 0) (asks s 6 4) (leaves s phase left)

-- behind the division
unfoldable pub divided : Song → ℕ → Song
divided s v =
    cond (divides v)
    (skips (record s { head = record (s.head) { division = v; tracks = 0 } }) 5 s.left)
    (refused s 32)

-- behind the number of tracks that the header declares
abbrev pub declares : Song → ℕ → Song
declares s v = headed s (record (s.head) { declared = v; division = 0; tracks = 0 }) 4 2

-- behind the format: 0 or 1
unfoldable pub formed : Song → ℕ → Song
formed s v = cond (ltb 1 v) (refused s 31) (headed s (record { format = v; declared = 0; division = 0; tracks = 0 }) 3 2)

-- behind the header's length: six bytes are looked at
unfoldable pub long : Song → ℕ → Song
long s v = cond (ltb v 6) (refused s 33) (asks (record s { left = v - 6 }) 2 2)

-- behind the first name: MThd
unfoldable pub opened : Song → ℕ → Song
opened s v = cond (eqb v 1297377380) (asks s 1 4) (refused s 30)

-- ---- Chunks

-- behind a chunk's size: a track, MTrk, or another chunk, which is passed over
unfoldable pub sized : Song → ℕ → Song
sized s v =
    cond (eqb s.name 1297379947) (cond (eqb v 0) (asks (tracked s 0) 6 4) (tracked s v))
    (skips s 9 v)

-- behind a number: of the header, of a chunk's name or of its size
unfoldable pub numbered : Song → ℕ → Song
numbered s v =
    cond (eqb s.phase 0) (opened s v)
    (cond (eqb s.phase 1) (long s v)
    (cond (eqb s.phase 2) (formed s v)
    (cond (eqb s.phase 3) (declares s v)
    (cond (eqb s.phase 4) (divided s v)
    (cond (eqb s.phase 6) (named s v) (sized s v))))))

-- after a byte of a number
unfoldable pub after_number : Song → ℕ → Song
after_number s b =
    let value = s.value % 16777216 * 256 + b in
    cond (ltb s.count 2) (numbered s value) (counts s value (s.count - 1))

-- behind the last byte of a track: it may not end within an event
unfoldable pub track_ends : Song → Track → Song
track_ends s t = cond (eqb (tracks.ended t) 0) (plays s t 6 4 0) (refused s (tracks.ended t))

-- after a byte of a track
unfoldable pub after_track : Song → Track → Song
after_track s t =
    cond (not (eqb t.number 0)) (refused s t.number)
    (cond (ltb s.left 2) (track_ends s t) (plays s t 8 0 (s.left - 1)))

-- after any byte: what is refused stays; a byte of 5 or 9 is passed over
unfoldable pub after_byte : Song → ℕ → Song
after_byte s b =
    cond (not (eqb s.number 0)) s
    (cond (eqb s.phase 8) (after_track s (tracks.after_byte s.track b))
    (cond (eqb s.phase 5 || eqb s.phase 9) (skips s s.phase (s.left - 1)) (after_number s b)))

-- what is answered where the file ends: the refusal; 30 within its first name; 33 where it ends within its header, within a chunk's body, without a track or with fewer than its header declares; else 0
unfoldable pub ended : Song → ℕ
ended s =
    cond (not (eqb s.number 0)) s.number
    (cond (eqb s.phase 0) 30
    (cond (eqb s.phase 6 || eqb s.phase 7)
    (cond (ltb s.head.tracks s.head.declared || eqb s.head.tracks 0) 33 0) 33))
