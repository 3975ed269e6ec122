-- The room that a line takes.
use Rattle.std.specs.Prelude.{◌≤◌, length}
use Rattle.std.proofs.Common.{arith, length-append}
use Rattle.text.specs.Spelling.{long-short}
use Rattle.reports.specs.declared.Figures.{Figures}
use Rattle.reports.specs.Reports.{mean_of, remainder_of, figures_line}

-- a line has room where it is written
pub line-short : (f : Figures) → length (figures_line f) ≤ 147
unfolding figures_line
line-short f =
    simp length-append
    (omega (
      arith,
      long-short f.samples,
      long-short f.pitched,
      long-short f.repeated,
      long-short f.dropped,
      long-short f.sum,
      long-short (mean_of f),
      long-short (remainder_of f),
    ))
