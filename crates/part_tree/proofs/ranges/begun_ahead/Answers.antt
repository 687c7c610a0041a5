use Rattle.std.proofs.Common.{◌+◌, rules}
use Rattle.std.proofs.lemmas.List.Sorted.{IsPartitionPoint-from_clause}
use Rattle.part_tree.specs.Ranges.{begins_by}
use Rattle.part_tree.proofs.Spans.{partitioned}
use Rattle.part_tree.proofs.ranges.begun_ahead.Goals as goal

pub returns-clause-cut : goal.returns-clause-cut
returns-clause-cut c = IsPartitionPoint-from_clause (begins_by (c.args.place + 8)) _ _ c.partition_point.ensures.partitioned (partitioned 0 c.args.chunks.now (c.args.place + 8) c.requires.in_order) (λ a r q k. search rules)
