-- What the steps of a report promise.
use Rattle.std.specs.Prelude.{◌≡◌, List, ℕ, take}
use Rattle.rules.specs.Rules.{Given}
use Rattle.tuner.specs.declared.Tuner.{Tuner}
use Rattle.reports.specs.declared.Figures.{Figures}
use Rattle.reporting.specs.declared.line.Line.{Line}
use Rattle.reporting.specs.declared.Reporting.{Reporting}
use Rattle.reporting.specs.Reporting.{Takes, with_given}
use Rattle.reporting.specs.Counts.{On}
use Rattle.reporting.specs.Keeping.{Keeps}

-- the newest take goes on with samples of the figures f, which leaves the tuner u
pub record GoesOn (r : Reporting) (u : Tuner) (f : Figures) (q : Reporting) : Type 0 where
  pub tuner : q.tuner ≡ u
  pub keeps : (out : List ℕ) (takes : Takes) (gs : List Given) → On r.tuner u gs f → Keeps r out takes → Keeps q out (with_given gs takes)

-- the bytes of a line that are held
abbrev pub held_in : Line → List ℕ
held_in l = take l.held l.bytes
