-- The three wrong programs by which the cutting of a take would matter are shut out (`cuts_shut_out`).
-- Each is told by what it would do to any block. The promise settles otherwise what becomes of a tone with 24 samples a cycle, in the sample at which a search or a step is due.
use Rattle.std.specs.Prelude.{List, [], ◌∷◌, map, ℕ, ℤ}
use Rattle.rules.specs.Rules.{period}
use Rattle.history.specs.History.{sample, new-settings, Course, course_after}
use Rattle.account.specs.WrongCuts.{found_tone, loud_only}

-- ---- what the rules make of the tone: its period, 24 samples; with the other settings it is lost
abbrev pub softened : Course
softened = course_after found_tone (new-settings loud_only ∷ [])

-- the period after samples
abbrev pub period_after : Course → List ℤ → ℕ
period_after c xs = (course_after c (map sample xs)).take.pitch.tone.period
