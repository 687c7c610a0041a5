use Rattle.std.proofs.Common.{[], rules}
use Rattle.std.proofs.lemmas.List.Sorted.{IsPartitionPoint-from_clause}
use Rattle.part_tree.specs.Names.{field_place}
use Rattle.part_tree.proofs.Entries.{entry}
use Rattle.part_tree.proofs.Halved.{front_is, partitioned, stands_before}
use Rattle.part_tree.proofs.fields.entries_before.Goals as goal

pub returns-clause-count : goal.returns-clause-count
returns-clause-count c =
    let place = field_place c.args.name.now in
    front_is c.args.entries.now place c.partition_point.result (entry c.args.name.now []) c.partition_point.ensures.bound
    (IsPartitionPoint-from_clause (stands_before place) _ _ c.partition_point.ensures.partitioned (partitioned 0 c.args.entries.now place c.requires.in_order) (λ a r q k. search rules))
