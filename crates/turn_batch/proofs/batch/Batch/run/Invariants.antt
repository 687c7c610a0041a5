use Rattle.std.proofs.Common.{take}
use Rattle.turn_batch.specs.Schedules.{Ran}
use Rattle.turn_batch.proofs.batch.Batch.run.Given as goal

abbrev pub ghost-turn : goal.ghost-turn
ghost-turn g a = g.files a.i

abbrev pub invariant-loop-i : goal.invariant-loop-i
invariant-loop-i g l = Ran g.D.Depot.disk g.files (take l.i-index l.schedule) l.fn.self l.self l.fn.depots l.depots
