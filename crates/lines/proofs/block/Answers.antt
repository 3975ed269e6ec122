-- `lines::block` meets its contract: the call's own promise over the samples, and the counts and samples that it answers.
use Rattle.std.proofs.Common.{refl, rules}
use Rattle.lines.specs.Lines.{begins, block_line, taken}
use Rattle.lines.specs.Laws.{took-few, took-alone}
use Rattle.lines.proofs.block.Goals as goal

pub say_block-requires : goal.say_block-requires
say_block-requires c = (c.requires, took-few c.block-answer.ensures, search rules)

pub returns : goal.returns
unfolding begins
returns c =
    let l = c.block-answer.new in
    let m = c.block-answer.auto in
    record {
      text = block_line c.block-answer.result l.out;
      said = taken (took-alone l.first l.second l.third m.first m.second m.third c.block-answer.ensures);
      begun = refl;
      put = c.say_block.ensures;
    }
