-- A last line that lacks its end is a line, and the takes then are those of the whole input.
use Rattle.std.proofs.Common.{◌≡◌, length, rules}
use Rattle.reporting.specs.Going.{ended-none, ended-line}
use Rattle.reporting.proofs.Reporting.finish.Goals as goal

pub returns-then-is_empty : goal.returns-then-is_empty
returns-then-is_empty c =
    let none : length c.args.held.now ≡ 0 = search rules in
    (c.write_report.ensures.0, λ input s. ended-none s none (c.write_report.ensures.1 s.takes s.keeps))

pub returns : goal.returns
returns c =
    let some : length c.args.held.now ≡ 0 → ⊥ = search rules in (
      c.write_report-2.ensures.0,
      λ input s.
          let l = c.report_line.ensures s.takes s.keeps in
          ended-line s some l (c.write_report-2.ensures.1 _ l.keeps),
    )
