-- The fields after the number take less than all of them.
use Rattle.std.proofs.Common.{arith}
use Rattle.text.specs.Fields.{room_of_others}
use Rattle.lines.proofs.read_block.Goals as goal

pub values-requires : goal.values-requires
values-requires c = (omega arith, omega (arith, c.requires, room_of_others c.in_ok-next.ensures.steps))
