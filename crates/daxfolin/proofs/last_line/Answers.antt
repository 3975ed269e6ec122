-- Without a byte held nothing is answered, and otherwise the bytes held are a line.
use Rattle.std.proofs.Common.{refl, rules}
use Rattle.daxfolin.specs.Laws.{nothing_to_finish, line-bare, last_line_finished}
use Rattle.daxfolin.proofs.last_line.Goals as goal

pub returns-then-is_empty : goal.returns-then-is_empty
returns-then-is_empty c = nothing_to_finish c.args.held.now (search rules)

pub returns : goal.returns
returns c = last_line_finished c.args.held.now (search rules) c.requires (line-bare refl c.answer_line-r.auto.store c.answer_line-r.ensures.answered)
