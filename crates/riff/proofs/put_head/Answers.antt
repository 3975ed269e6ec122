-- `riff::put_head` meets its contract: a run of four bytes, and another behind it.
use Rattle.riff.specs.Riff.{bytes_of}
use Rattle.riff.specs.Stores.{stored_then}
use Rattle.riff.specs.Numbers.{length-bytes_of}
use Rattle.riff.proofs.put_head.Goals as goal

pub returns : goal.returns
returns c =
    let q = c in
    let p = q in
    let a = p.args in
    stored_then a.out.now a.at 4 (bytes_of 4 a.name) (bytes_of 4 a.size) (length-bytes_of 4 a.name) p.put_four.ensures q.put_four-2.ensures
