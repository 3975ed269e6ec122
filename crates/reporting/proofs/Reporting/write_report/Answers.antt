-- The newest take's line and the total's stand after those of the takes before.
use Rattle.std.proofs.Common.{arith}
use Rattle.reporting.specs.Keeping.{keeps-room, written-few, written-many, too_many_within}
use Rattle.reporting.proofs.Reporting.write_report.Goals as goal

pub returns-then-self-gt-MOST_TAKES : goal.returns-then-self-gt-MOST_TAKES
returns-then-self-gt-MOST_TAKES c = (too_many_within (omega (arith, c.requires.1)) c.put_too_many.ensures, λ takes k. written-many c.if-self-gt-MOST_TAKES.true k c.put_too_many.ensures)

pub returns : goal.returns
returns c =
    let room = (keeps-room c.requires.0.keeps c.if-self-gt-MOST_TAKES.false).length in (
      omega (arith, room, c.requires.1, c.put_line-at.ensures.within, c.put_line-at.auto.out, c.put_line.ensures.within, c.put_line.auto.out),
      λ takes k. written-few c.requires.1 c.if-self-gt-MOST_TAKES.false k c.put_line-at.ensures.put c.add-total.ensures c.put_line.ensures.put,
    )
