-- `answers::judge` meets its contract: the last number is judged by its samples, and any other by whether it is the next and by the take's limit.
use Rattle.std.proofs.Common.{sym, ◌∙◌}
use Rattle.answers.specs.Numbering.{neither, other, again, full, new}
use Rattle.answers.proofs.judge.Goals as goal

pub returns-then-again : goal.returns-then-again
returns-then-again c = again (c.is_last.ensures.yes c.if-is_last.true) (c.again.ensures.yes c.if-again.true)

pub returns-else-again : goal.returns-else-again
returns-else-again c = other (c.is_last.ensures.yes c.if-is_last.true) (c.again.ensures.no c.if-again.false)

pub returns-then-number-next_number : goal.returns-then-number-next_number
returns-then-number-next_number c = neither (c.is_last.ensures.no c.if-is_last.false) (λ e. c.if-number-next_number.true (e ∙ sym c.next_number.ensures))

pub returns-then-count-samples-gt-TAKE_LIMIT : goal.returns-then-count-samples-gt-TAKE_LIMIT
returns-then-count-samples-gt-TAKE_LIMIT c =
    full (c.is_last.ensures.no c.if-is_last.false) (c.if-number-next_number.false ∙ c.next_number.ensures) c.if-count-samples-gt-TAKE_LIMIT.true

pub returns : goal.returns
returns c = new (c.is_last.ensures.no c.if-is_last.false) (c.if-number-next_number.false ∙ c.next_number.ensures) c.if-count-samples-gt-TAKE_LIMIT.false
