use Rattle.std.proofs.Common.{leb, rules}
use Rattle.std.proofs.lemmas.List.Sorted.{IsPartitionPoint-from_clause, IsPartitionedBy-leb}
use Rattle.desk_core.specs.declared.batch.Batch.{Batch}
use Rattle.desk_core.proofs.TellTurn.{firsts_rise}
use Rattle.desk_core.proofs.status.begun_by.Goals as goal

pub returns-clause-point : goal.returns-clause-point
returns-clause-point c =
    let parted = IsPartitionedBy-leb (λ (b : Batch). b.first) c.args.batches.now c.args.index (λ i j d le lt. firsts_rise c.args.batches.now 0 c.requires i j d le lt) in
    IsPartitionPoint-from_clause (λ (b : Batch). leb b.first c.args.index) _ _ c.partition_point.ensures.partitioned parted (λ a r q k. search rules)
