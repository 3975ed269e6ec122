-- What a voice's type says of its kept output. A proof of a function with the voice v as its third parameter cites `out-long c.args.v _ c.good.1.1.0`, with c its `Start`.
-- Assumes nothing.
use mathlib.Core.Path.{◌≡◌}
use mathlib.Core.List.{List}
use borrow.Author.Rules.{length_unmapped}
use lib.ListN.{length}
use mir.Val.{Val}
use denote.Laws.{Is}
use Rattle.singers.specs.declared.Voice.{Voice}
use Rattle.singers.specs.contracts.Voice.{the_row}

pub out-long : (v : Voice) (vs : List Val) → Is the_row v vs → length v.out ≡ 512
out-long v vs p = search length_unmapped
