-- `writing::begin` meets its contract: the rate and the count are small.
use Rattle.std.proofs.Common.{sym, ◌∙◌, arith}
use Rattle.wave.specs.Rates.{known_small}
use Rattle.writing.proofs.begin.Goals as goal

pub put_header-requires : goal.put_header-requires
put_header-requires c =
    (omega arith, omega (arith, known_small c.args.hertz (sym c.known.ensures ∙ c.if-not-known.false)), omega arith)
