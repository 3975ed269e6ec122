-- The report over the histories of the takes: K14's account. Definitions only, and one statement (`ReportTheorem`); its proof is `report-holds` in Follows.antt.
use Rattle.std.specs.Prelude.{◌≡◌, cond, List, [], ◌∷◌, ◌++◌, map, ℕ, eqb}
use Rattle.rules.specs.declared.Settings.{Settings}
use Rattle.rules.specs.Rules.{Given, defaults, cd_rate}
use Rattle.history.specs.History.{Event, sample, new-settings, byte, fresh_course, given_by}
use Rattle.tuner.specs.declared.Tuner.{Tuner}
use Rattle.tuner.specs.declared.Answer.{Answer}
use Rattle.tuner.specs.Tuners.{default_tuner}
use Rattle.lines.specs.Lines.{Line, start, change, block, reset, mode, channel, midi, unreadable, with_four, with_mode, with_channel}
use Rattle.reports.specs.Reports.{report_of}
use Rattle.reporting.specs.Reporting.{Through, Report}

-- a take: the sample rate and the settings with which it began, and what happened in it
pub record Past : Type 0 where
  pub hertz : ℕ
  pub settings : Settings
  pub events : List Event

-- where a take begins
abbrev pub fresh : ℕ → Settings → Past
fresh hertz s = record { hertz = hertz; settings = s; events = [] }

-- what the rules give for each of its samples
abbrev pub given_in : Past → List Given
given_in p = given_by (fresh_course p.hertz p.settings) p.events

-- more happens in the newest of the takes
unfoldable pub with_more : List Event → List Past → List Past
with_more es [] = []
with_more es (p ∷ older) = record { hertz = p.hertz; settings = p.settings; events = p.events ++ es } ∷ older

-- what a line to the tuner t makes of the takes, the newest first, where it is taken: a start and a reset begin one, and all else happens in the newest
unfoldable pub pasts_by : Tuner → Line → List Past → List Past
pasts_by t (start hertz s) ps = fresh hertz s ∷ ps
pasts_by t (change s) ps = with_more (new-settings (with_four t s) ∷ []) ps
pasts_by t (block k xs) ps = with_more (map sample xs) ps
pasts_by t reset ps = fresh t.numbers.hertz t.numbers.settings ∷ ps
pasts_by t (mode m) ps = with_more (new-settings (with_mode t m) ∷ []) ps
pasts_by t (channel c) ps = with_more (new-settings (with_channel t c) ∷ []) ps
pasts_by t (midi bytes) ps = with_more (map byte bytes) ps
pasts_by t unreadable ps = ps

-- it is taken where it is answered 0
abbrev pub pasts_after : Tuner → Line → Answer → List Past → List Past
pasts_after t line a ps = cond (eqb a.number 0) (pasts_by t line ps) ps

-- the report of an input over the histories of its takes: every figure is counted over what the rules give for each sample of a take, from its beginning on
pub record Reckoned (input printed : List ℕ) : Type 0 where
  pub pasts : List Past
  pub through : Through pasts_after default_tuner (fresh cd_rate defaults ∷ []) [] input pasts
  pub text : printed ≡ report_of (map given_in pasts)

-- every report is that
abbrev pub ReportTheorem : Type 0
ReportTheorem = (input printed : List ℕ) → Report input printed → Reckoned input printed
