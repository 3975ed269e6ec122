-- The key that MIDI 1.0 bytes leave held, on one chosen channel, from 0 to 15. Definitions only.
-- A byte below 128 is data; 128 to 239 is a channel's status, 240 to 247 is system common or exclusive, and from 248 on it is real-time.
use Rattle.std.specs.Prelude.{◌≡◌, cond, ◌&&◌, List, [], ◌∷◌, ℕ, ◌+◌, ◌≤◌, ◌<◌, leb, ltb, eqb}
use Rattle.keyboard.specs.declared.Keyboard.{Keyboard}

-- no key is held; there is no running status; there is no half message
abbrev pub no_key : ℕ
no_key = 128

abbrev pub no_status : ℕ
no_status = 0

abbrev pub no_data : ℕ
no_data = 128

-- a keyboard with this key held and this running status, and without a half message
abbrev pub waiting : ℕ → ℕ → Keyboard
waiting key status = record { key = key; status = status; half = no_data }

-- a fresh keyboard
abbrev pub fresh : Keyboard
fresh = waiting no_key no_status

-- ---- A message

-- note off is 128 to 143 and note on 144 to 159, by channel
abbrev pub note_off : ℕ → ℕ
note_off channel = 128 + channel

abbrev pub note_on : ℕ → ℕ
note_on channel = 144 + channel

-- how many data bytes a status has: 192 to 223, program change and channel pressure, one; any other of a channel two
unfoldable pub data_bytes : ℕ → ℕ
data_bytes status = cond (eqb status no_status) 0 (cond (leb 192 status && ltb status 224) 1 2)

-- the key after the release of a note: none where it is the key held
unfoldable pub released : ℕ → ℕ → ℕ
released key note = cond (eqb note key) no_key key

-- the key after a whole message: note on with a velocity, its note; note on with velocity 0, and note off, a release; any other, the key held
unfoldable pub key_after : (channel key status note velocity : ℕ) → ℕ
key_after channel key status note velocity =
    cond (eqb status (note_on channel)) (cond (ltb 0 velocity) note (released key note))
    (cond (eqb status (note_off channel)) (released key note) key)

-- ---- A byte

-- after a data byte: passed over unless the running status has two; the first of two is kept, and the second makes the message whole
unfoldable pub after_data : ℕ → Keyboard → ℕ → Keyboard
after_data channel k b =
    cond (eqb (data_bytes k.status) 2)
    (cond (eqb k.half no_data) (record { key = k.key; status = k.status; half = b })
    (waiting (key_after channel k.key k.status k.half b) k.status))
    k

-- after any byte: a channel's status is the running status; 240 to 247 end it; both end a half message; real-time changes nothing
unfoldable pub after_byte : ℕ → Keyboard → ℕ → Keyboard
after_byte channel k b =
    cond (ltb b 128) (after_data channel k b)
    (cond (ltb b 240) (waiting k.key b)
    (cond (ltb b 248) (waiting k.key no_status) k))

-- after bytes, one after the other
unfoldable pub played : ℕ → Keyboard → List ℕ → Keyboard
played channel k [] = k
played channel k (b ∷ bs) = played channel (after_byte channel k b) bs

-- when a channel is chosen: another than that in force forgets the key, the running status and any half message
unfoldable pub on_channel : (inForce chosen : ℕ) → Keyboard → Keyboard
on_channel inForce chosen k = cond (eqb chosen inForce) k fresh

-- ---- A keyboard that is kept

-- no running status, or a channel's
pub data StatusIn (status : ℕ) : Type 0 where
  not_running : status ≡ no_status → StatusIn status
  running : 128 ≤ status → status < 240 → StatusIn status

-- no half message, or a data byte under a status that has two
pub data HalfIn (status half : ℕ) : Type 0 where
  not_begun : half ≡ no_data → HalfIn status half
  begun : half < 128 → data_bytes status ≡ 2 → HalfIn status half

-- what is asked of a keyboard that is kept: its key is none or a note, 0 to 127
pub record KeyboardIn (k : Keyboard) : Type 0 where
  pub key : k.key ≤ no_key
  pub status : StatusIn k.status
  pub half : HalfIn k.status k.half
