use Rattle.std.proofs.Common.{◌≡◌, take}
use Rattle.turn_batch.specs.Members.{some_open}
use Rattle.turn_batch.specs.Schedules.{Ran, each_once}
use Rattle.turn_batch.proofs.batch.Batch.round.Given as goal

abbrev pub ghost-turn : goal.ghost-turn
ghost-turn g a = g.files a.i

abbrev pub invariant-loop-i : goal.invariant-loop-i
invariant-loop-i g l = record {
  ran : Ran g.D.Depot.disk g.files (each_once l.i) l.fn.self l.self l.fn.depots l.depots;
  some : l.open ≡ some_open (take l.i l.self);
}
