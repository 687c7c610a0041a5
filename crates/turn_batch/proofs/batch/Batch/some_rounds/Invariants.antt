use Rattle.std.proofs.Common.{◌≡◌}
use Rattle.turn_batch.specs.Members.{some_open}
use Rattle.turn_batch.specs.Schedules.{RanEach}
use Rattle.turn_batch.proofs.batch.Batch.some_rounds.Given as goal

abbrev pub ghost-round : goal.ghost-round
ghost-round g a = g.files

abbrev pub invariant-loop-made : goal.invariant-loop-made
invariant-loop-made g l = record {
  ran : RanEach g.D.Depot.disk g.files l._made l.fn.self l.self l.fn.depots l.depots;
  some : l.open ≡ some_open l.self;
}
