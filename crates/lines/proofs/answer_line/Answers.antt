-- `lines::answer_line` meets its contract: without room nothing is done, and a line that cannot be read is refused.
use Rattle.std.proofs.Common.{sym, ap, ◌∙◌, refl}
use Rattle.lines.specs.Lines.{begins, read, numbered, not_read}
use Rattle.lines.specs.Laws.{begins_no_room, answered_as}
use Rattle.lines.specs.Steps.{replied_number}
use Rattle.lines.proofs.answer_line.Goals as goal

pub returns-then-out-lt-ANSWER_ROOM-clause-begun : goal.returns-then-out-lt-ANSWER_ROOM-clause-begun
returns-then-out-lt-ANSWER_ROOM-clause-begun c = let line = read c.args.line.now in begins_no_room line ∙ ap (begins line) (sym (c.numbered.ensures ∙ ap numbered c.number.ensures))

pub returns-in-Some : goal.returns-in-Some
returns-in-Some c = let p = answered_as c.args.line.now c.if-out-lt-ANSWER_ROOM.false c.in-Some.ensures c.obey.ensures in record { answered = p.0; begun = p.1 }

pub returns-in-None : goal.returns-in-None
unfolding begins
returns-in-None c =
    let s = c.say.ensures in
    let p = answered_as c.args.line.now c.if-out-lt-ANSWER_ROOM.false c.in-None.ensures (replied_number not_read refl s.answer s.begins s.put) in
    record { answered = p.0; begun = p.1 }
