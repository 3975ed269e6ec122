-- `writing::write_header` meets its contract: the header that was written, as it is answered.
use Rattle.writing.specs.Writing.{header_answered}
use Rattle.writing.proofs.write_header.Goals as goal

pub returns : goal.returns
returns c = rw c.from.ensures (header_answered c.begin.result c.begin.ensures)
