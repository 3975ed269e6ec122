-- `riff::put_four` meets its contract: the four bytes are those that std has.
use Rattle.std.proofs.Common.{◌+◌, ◌-◌, ◌∙◌, arith}
use Rattle.riff.specs.Riff.{bytes_of}
use Rattle.riff.specs.Stores.{stored-part}
use Rattle.riff.specs.Numbers.{four-bytes, length-bytes_of}
use Rattle.riff.proofs.put_four.Goals as goal

pub returns : goal.returns
returns c =
    let n = c.args.n in
    stored-part c.args.out.now c.args.at (c.args.at + 4 - c.args.at) (bytes_of 4 n) (c.copy_from_slice.ensures.after ∙ c.to_le_bytes.ensures ∙ four-bytes n) (length-bytes_of 4 n ∙ omega arith) (omega arith)
