-- The table falls, so the notes with a longer period are its first.
use borrow.Author.Rules.{rules}
use lib.Dec.{ltb}
use Rattle.std.proofs.lemmas.List.Sorted.{IsPartitionPoint-from_clause}
use Rattle.notes.specs.Around.{parted, longer_at}
use Rattle.notes.proofs.Table.longer.Goals as goal

pub returns : goal.returns
returns c =
    let p = c.args.period in
    let t = c.requires in
    longer_at p t.rate t.periods c.partition_point.ensures.bound
    (IsPartitionPoint-from_clause (λ q. ltb p q) _ _ c.partition_point.ensures.partitioned (parted p t.rate t.periods) (λ a r q k. search rules))
