use Rattle.std.proofs.Common.{rules}
use Rattle.std.specs.Prelude.{nat_lt}
use Rattle.std.proofs.lemmas.List.Sorted.{IsPartitionPoint-from_clause, IsPartitionedBy-ltb}
use Rattle.mov_plan.proofs.Held.{begun_is}
use Rattle.mov_plan.proofs.holders.begun.Goals as goal

pub returns-clause-count : goal.returns-clause-count
returns-clause-count c = λ up.
    begun_is c.args.place c.args.tables.now c.partition_point.result c.partition_point.ensures.bound
    (IsPartitionPoint-from_clause (λ t. nat_lt t.at c.args.place) _ _ c.partition_point.ensures.partitioned (IsPartitionedBy-ltb (λ t. t.at) c.args.tables.now c.args.place up) (λ a r q k. search rules))
