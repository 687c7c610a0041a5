use Rattle.std.proofs.Common.{◌≡◌, length, take}
use Rattle.turn_batch.specs.Schedules.{Ran}
use Rattle.turn_rows.specs.Two.{the_file}
use Rattle.turn_rows.proofs.runs.answers_of.Given as goal

abbrev pub ghost-turn : goal.ghost-turn
ghost-turn g a = the_file a.i

abbrev pub invariant-loop-i : goal.invariant-loop-i
invariant-loop-i g l = record {
  count : length l.answers.items ≡ l.i-index;
  ran : Ran g.D.Depot.disk the_file (take l.i-index l.schedule) l.fn.batch l.batch l.fn.depots l.depots;
}
