-- After any calls the lead of a tuner is that of what happened in its take, and what the answers count and what was written add up to what the rules give (`Keeps`).
-- A night is its single calls: a first block that is given again adds nothing, and behind it none is given again, since its number is not the last one's.
use Rattle.std.specs.Prelude.{◌≡◌, ℕ, ◌+◌, ◌<◌}
use mathlib.Core.List.{List, ◌++◌, map}
use Rattle.std.proofs.Math.IntN.{ℤ}
use Rattle.std.proofs.Math.ListN.{take}
use Rattle.history.specs.History.{Event, sample, fresh_course}
use Rattle.history.specs.Courses.{CourseIn, EventsIn}
use Rattle.reports.specs.declared.Figures.{Figures}
use Rattle.reports.specs.Reports.{figures_of, added}
use Rattle.tuner.specs.declared.Voice.{Voice}
use Rattle.tuner.specs.declared.Tuner.{Tuner}
use Rattle.tuner.specs.declared.Answer.{Answer}
use Rattle.tuner.specs.Tuners.{voice_at, stands_at, written, taken, counted, Took}
use Rattle.staying.specs.Staying.{Stays}
use Rattle.nights.specs.Night as Night
use Rattle.account.specs.Account.{Received, course_of, given_of, onward, counted_by, received, voice_course, voice_of, outs_of}
use Rattle.account.specs.Cutting.{lead_after}

-- ---- what each call keeps

-- the intervals of the voices that are chosen
abbrev pub chosen_of : Tuner → List ℕ
chosen_of t = map (λ (v : Voice). v.interval) (take t.numbers.chosen t.numbers.voices)

pub record Keeps (r : Received) (t : Tuner) : Type 0 where
  pub stays : Stays t
  pub began : CourseIn (fresh_course r.hertz r.settings)
  pub ranges : EventsIn r.events
  pub is : t ≡ lead_after (course_of r) t
  pub listed : t.numbers.listed ≡ r.listed
  pub intervals : chosen_of t ≡ r.intervals
  pub figures : r.figures ≡ figures_of (given_of r)
  pub wrote : r.wrote ≡ outs_of r
  pub voices : (j : ℕ) → j < t.numbers.chosen → let v = voice_at t.numbers.voices j in stands_at t v ≡ voice_of v.interval r

-- ---- more has happened, more was counted, and this was written in all
abbrev pub more : Received → List Event → Figures → List (List ℤ) → Received
more r es f ws = record { hertz = r.hertz; settings = r.settings; listed = r.listed; intervals = r.intervals; events = r.events ++ es; figures = added r.figures f; wrote = ws }

-- samples were taken, and stand at the beginning of the outputs
abbrev pub more_samples : Received → (n : ℕ) → List ℤ → Figures → List (List ℤ) → Received
more_samples r n xs f os = more r (map sample xs) f (onward 0 n r.wrote os)

-- the chosen voices stand where events have left them
abbrev pub MovedBy : Received → List Event → Tuner → Type 0
MovedBy r es t = (j : ℕ) → j < t.numbers.chosen → let v = voice_at t.numbers.voices j in stands_at t v ≡ voice_course v.interval (course_of r) (voice_of v.interval r) es

-- a block that is taken keeps this too, of what was received, the tuner and the store
pub record Carried (P : Received → Tuner → List ℕ → Type 0) : Type 0 where
  pub step : {r : Received} {t u : Tuner} {k : ℕ} {xs : List ℤ} {os ps : List (List ℤ)} {store mid : List ℕ} {a : Answer} → Keeps r t → P r t store → Took t k xs os store u a ps mid → a.number ≡ 0 → P (more_samples r a.written xs (counted_by a) ps) u mid
