-- Worked keyboards: one table, and one statement over it, about the definitions. Definitions only.
use Rattle.std.specs.Prelude.{◌≡◌, List, [], ◌∷◌, ℕ}
use Rattle.keyboard.specs.declared.Keyboard.{Keyboard}
use Rattle.keyboard.specs.Keys.{no_key, fresh, played}

-- the calls that a fresh keyboard gets on channel 0, and the key then held
pub record Worked : Type 0 where
  pub calls : List (List ℕ)
  pub key : ℕ

-- the keyboard after some calls, one after the other
unfoldable pub called : Keyboard → List (List ℕ) → Keyboard
called k [] = k
called k (bs ∷ more) = called (played 0 k bs) more

unfoldable pub AllHold : List Worked → Type 0
AllHold [] = Unit
AllHold (w ∷ ws) = ((called fresh w.calls).key ≡ w.key) × AllHold ws

-- one call, and the key it leaves
abbrev leaves : List ℕ → ℕ → Worked
leaves bs key = record { calls = bs ∷ []; key = key }

unfoldable pub keyboards : List Worked
keyboards =
    leaves (144 ∷ 60 ∷ 100 ∷ []) 60
    -- running status; the latest note on
    ∷ leaves (144 ∷ 60 ∷ 100 ∷ 62 ∷ 90 ∷ []) 62
    -- released, though 60 is down
    ∷ leaves (144 ∷ 60 ∷ 100 ∷ 62 ∷ 90 ∷ 62 ∷ 0 ∷ []) no_key
    -- an older key's release changes nothing
    ∷ leaves (144 ∷ 60 ∷ 100 ∷ 62 ∷ 90 ∷ 60 ∷ 0 ∷ []) 62
    ∷ leaves (144 ∷ 60 ∷ 100 ∷ 128 ∷ 60 ∷ 64 ∷ []) no_key
    -- a real-time byte inside a message
    ∷ leaves (144 ∷ 60 ∷ 248 ∷ 100 ∷ []) 60
    ∷ leaves (144 ∷ 60 ∷ 249 ∷ 100 ∷ []) 60
    ∷ leaves (144 ∷ 60 ∷ 253 ∷ 100 ∷ []) 60
    ∷ leaves (144 ∷ 60 ∷ 255 ∷ 100 ∷ []) 60
    -- no reset: the key stays held
    ∷ leaves (144 ∷ 60 ∷ 100 ∷ 255 ∷ []) 60
    -- 240 to 247 end a half message and the running status
    ∷ leaves (144 ∷ 60 ∷ 240 ∷ 1 ∷ 2 ∷ 247 ∷ 100 ∷ []) no_key
    ∷ leaves (144 ∷ 60 ∷ 244 ∷ 100 ∷ []) no_key
    ∷ leaves (144 ∷ 60 ∷ 245 ∷ 100 ∷ []) no_key
    -- an exclusive ends at a status too
    ∷ leaves (240 ∷ 1 ∷ 2 ∷ 144 ∷ 60 ∷ 100 ∷ []) 60
    -- another channel's message has the running status
    ∷ leaves (144 ∷ 60 ∷ 100 ∷ 145 ∷ 62 ∷ 100 ∷ 64 ∷ 90 ∷ []) 60
    -- controllers, programs, pressure and bend change nothing
    ∷ leaves (144 ∷ 60 ∷ 100 ∷ 176 ∷ 123 ∷ 0 ∷ []) 60
    -- three program changes
    ∷ leaves (144 ∷ 60 ∷ 100 ∷ 192 ∷ 5 ∷ 62 ∷ 0 ∷ []) 60
    -- data without a running status
    ∷ leaves (144 ∷ 60 ∷ 100 ∷ 246 ∷ 60 ∷ 0 ∷ []) 60
    -- a message cut in two
    ∷ record { calls = (144 ∷ 60 ∷ []) ∷ (100 ∷ []) ∷ []; key = 60 }
    ∷ []

-- each line of the table is so
abbrev pub KeyboardsHold : Type 0
KeyboardsHold = AllHold keyboards
