use Rattle.std.proofs.Common.{rules}
use Rattle.std.proofs.lemmas.List.Sorted.{IsPartitionPoint-from_clause}
use Rattle.part_tree.specs.Ranges.{begins_by}
use Rattle.part_tree.proofs.Spans.{partitioned}
use Rattle.track_samples.proofs.rooms.begun.Goals as goal

pub returns-clause-cut : goal.returns-clause-cut
returns-clause-cut c = IsPartitionPoint-from_clause (begins_by c.args.place) _ _ c.partition_point.ensures.partitioned (partitioned 0 c.args.spans.now c.args.place c.requires.in_order) (λ a r q k. search rules)
