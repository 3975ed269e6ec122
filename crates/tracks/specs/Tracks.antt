-- The events of a track of a Standard MIDI File 1.0, one byte after the other. Definitions only.
-- An event is a delta time in ticks and then a channel's message, whose status may be left out where the event before it has the same (running status); an exclusive, 240 or 247, a length and a body; or a meta event, 255, a type, a length and a body.
-- `phase` is what the next byte is: 0 the first of a delta time, 1 a further one of it, 2 a status, or data under the running status, 3 and 4 the first and the second data byte, 5 a meta event's type, 6 a byte of a length, 7 one of a body, 8 one behind the track's end.
-- `whole` is what the last byte made whole: 0 nothing, 1 a channel's message, 2 a tempo, 3 the track's end, 4 another event.
-- Refusals: 34 the track ends within an event, 35 a delta time or a length has more than four bytes, 36 data without a running status, 37 a status byte within a message, 38 a status byte that no file has, 39 a tempo that is 0 or does not have three bytes, 40 the track goes on behind tick 2^48.
use Rattle.std.specs.Prelude.{Bool, not, cond, ◌&&◌, ◌||◌, ℕ, ◌+◌, ◌-◌, ◌*◌, ◌%◌, leb, ltb, eqb}
use Rattle.tracks.specs.declared.Track.{Track}

-- a track of which no byte was read
abbrev pub begun : Track
begun = record { number = 0; whole = 0; phase = 0; running = 0; status = 0; first = 0; value = 0; left = 0; tick = 0 }

-- the track, refused by a number
abbrev pub refused : Track → ℕ → Track
refused t number = record t { number = number; whole = 0 }

-- within an event: what comes next, and what is known of it
abbrev pub partly : Track → (phase status first value left : ℕ) → Track
partly t phase status first value left = record t { number = 0; whole = 0; phase = phase; status = status; first = first; value = value; left = left }

-- behind a channel's message: its status is the running one
abbrev pub message : Track → (status first second : ℕ) → Track
message t status first second = record t { number = 0; whole = 1; phase = 0; running = status; status = status; first = first; value = second; left = 0 }

-- behind another event, which ends the running status: what it was, what comes next, and its number
abbrev pub other : Track → (what phase value : ℕ) → Track
other t what phase value = record t { number = 0; whole = what; phase = phase; running = 0; value = value; left = 0 }

-- behind a delta time: the event's tick
abbrev pub timed : Track → ℕ → Track
timed t tick = record t { number = 0; whole = 0; phase = 2; status = 0; first = 0; value = 0; left = 0; tick = tick }

-- ---- A delta time

-- a quantity after a byte more: seven bits, the greatest first
abbrev pub quantified : ℕ → ℕ → ℕ
quantified value b = value % 2097152 * 128 + b % 128

-- so many ticks later; a track that lasts too long is refused
unfoldable pub later : Track → ℕ → Track
later t ticks = cond (ltb 281474976710656 t.tick) (refused t 40) (timed t (t.tick + ticks))

-- after a byte of a delta time of which so much is known, and which may have so many bytes still
unfoldable pub after_delta : Track → (value left b : ℕ) → Track
after_delta t value left b =
    cond (ltb b 128) (later t (quantified value b))
    (cond (ltb left 2) (refused t 35) (partly t 1 0 0 (quantified value b) (left - 1)))

-- ---- A channel's message

-- a status with one data byte: program change and channel pressure
abbrev pub has_one : ℕ → Bool
has_one status = leb 192 status && ltb status 224

-- after the first data byte under a status
unfoldable pub after_first : Track → (status b : ℕ) → Track
after_first t status b =
    cond (leb 128 b) (refused t 37)
    (cond (has_one status) (message t status b 0) (partly t 4 status b 0 0))

-- after the second
unfoldable pub after_second : Track → ℕ → Track
after_second t b = cond (leb 128 b) (refused t 37) (message t t.status t.first b)

-- after a data byte where a status may stand
unfoldable pub after_running : Track → ℕ → Track
after_running t b = cond (eqb t.running 0) (refused t 36) (after_first t t.running b)

-- after the first byte behind a delta time
unfoldable pub after_status : Track → ℕ → Track
after_status t b =
    cond (ltb b 128) (after_running t b)
    (cond (ltb b 240) (partly t 3 b 0 0 0)
    (cond (eqb b 240 || eqb b 247) (partly t 6 b 0 0 4)
    (cond (eqb b 255) (partly t 5 255 0 0 0) (refused t 38))))

-- ---- Exclusives and meta events

-- a tempo, meta event 81, and a track's end, 47
abbrev pub is_tempo : Track → Bool
is_tempo t = eqb t.status 255 && eqb t.first 81

abbrev pub is_end : Track → Bool
is_end t = eqb t.status 255 && eqb t.first 47

-- behind a body, whose last three bytes are this number
unfoldable pub closed : Track → ℕ → Track
closed t value =
    cond (is_end t) (other t 3 8 0)
    (cond (is_tempo t) (cond (eqb value 0) (refused t 39) (other t 2 0 value)) (other t 4 0 0))

-- behind the length of a body: a tempo has three bytes
unfoldable pub opened : Track → ℕ → Track
opened t length =
    cond (is_tempo t) (cond (eqb length 3) (partly t 7 t.status t.first 0 3) (refused t 39))
    (cond (eqb length 0) (closed t 0) (partly t 7 t.status t.first 0 length))

-- after a byte of a length
unfoldable pub after_length : Track → ℕ → Track
after_length t b =
    cond (ltb b 128) (opened t (quantified t.value b))
    (cond (ltb t.left 2) (refused t 35) (partly t 6 t.status t.first (quantified t.value b) (t.left - 1)))

-- after a byte of a body
unfoldable pub after_body : Track → ℕ → Track
after_body t b =
    let value = t.value % 65536 * 256 + b in
    cond (ltb t.left 2) (closed t value) (partly t 7 t.status t.first value (t.left - 1))

-- ---- A byte

-- after a byte in any phase; behind the track's end none counts
unfoldable pub after_phase : Track → ℕ → Track
after_phase t b =
    cond (eqb t.phase 0) (after_delta t 0 4 b)
    (cond (eqb t.phase 1) (after_delta t t.value t.left b)
    (cond (eqb t.phase 2) (after_status t b)
    (cond (eqb t.phase 3) (after_first t t.status b)
    (cond (eqb t.phase 4) (after_second t b)
    (cond (eqb t.phase 5) (partly t 6 255 b 0 4)
    (cond (eqb t.phase 6) (after_length t b)
    (cond (eqb t.phase 7) (after_body t b) (other t 0 8 0))))))))

-- after any byte: what is refused stays
unfoldable pub after_byte : Track → ℕ → Track
after_byte t b = cond (eqb t.number 0) (after_phase t b) t

-- what is answered where the track's chunk ends: the refusal, or 0
unfoldable pub ended : Track → ℕ
ended t = cond (not (eqb t.number 0)) t.number (cond (eqb t.phase 0 || eqb t.phase 8) 0 34)
