-- Laws of a course: events, and more events after them; samples one after the other are the rules' fold, bytes the keyboard's; what events leave alone; and every range is kept.
use Rattle.std.specs.Prelude.{List, [], ◌∷◌}
use Rattle.rules.specs.Rules.{Take}
use Rattle.rules.specs.Facts.{InRange, SampleRate}
use Rattle.rules.specs.Sane.{Sane}
use Rattle.keyboard.specs.declared.Keyboard.{Keyboard}
use Rattle.keyboard.specs.Keys.{KeyboardIn}
use Rattle.history.specs.History.{Event, sample, new-settings, byte, Course}

-- ---- samples one after the other

-- the course with another take, and with another keyboard
abbrev pub with_take : Course → Take → Course
with_take c t = record { hertz = c.hertz; settings = c.settings; keyboard = c.keyboard; take = t }

abbrev pub with_keyboard : Course → Keyboard → Course
with_keyboard c k = record { hertz = c.hertz; settings = c.settings; keyboard = k; take = c.take }

-- ---- every range is kept, at every event

-- a course in its ranges
pub record CourseIn (c : Course) : Type 0 where
  pub settings : InRange c.settings
  pub hertz : SampleRate c.hertz
  pub keyboard : KeyboardIn c.keyboard
  pub take : Sane c.take

-- an event in its ranges: new settings are
abbrev pub EventIn : Event → Type 0
EventIn (sample x) = Unit
EventIn (new-settings s) = InRange s
EventIn (byte b) = Unit

abbrev pub EventsIn : List Event → Type 0
EventsIn [] = Unit
EventsIn (e ∷ es) = EventIn e × EventsIn es
