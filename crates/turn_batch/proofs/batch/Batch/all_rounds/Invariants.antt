use Rattle.std.proofs.Common.{◌≡◌, ℕ}
use Rattle.turn_batch.specs.Members.{some_open}
use Rattle.turn_batch.specs.Schedules.{RanEach}
use Rattle.turn_batch.proofs.Rounds.{all_left}
use Rattle.turn_batch.proofs.batch.Batch.all_rounds.Given as goal

abbrev pub ghost-round : goal.ghost-round
ghost-round g a = g.files

abbrev pub invariant-loop-open : goal.invariant-loop-open
invariant-loop-open g l = record {
  made : ℕ;
  ran : RanEach g.D.Depot.disk g.files made l.fn.self l.self l.fn.depots l.depots;
  some : l.open ≡ some_open l.self;
}

abbrev pub decreases-loop-open : goal.decreases-loop-open
decreases-loop-open g l = all_left l.self
