use Rattle.std.proofs.Common.{◌-◌}
use Rattle.file_swap.specs.Steps.{calls}
use Rattle.file_swap.proofs.Ends.{HasRun}
use Rattle.file_swap.proofs.Tallies.{HasCounted}
use Rattle.file_swap.proofs.swapping.Swap.run.Given as goal

abbrev pub ghost-turn : goal.ghost-turn
ghost-turn g a = g.old

abbrev pub invariant-loop-self : goal.invariant-loop-self
invariant-loop-self g l = record {
  run : HasRun l.fn.self l.self g.old (g.D.Depot.disk l.fn.depot) (g.D.Depot.disk l.depot);
  counted : HasCounted l.fn.self.plan l.fn.self.made l.self.made (g.D.Depot.calls l.fn.depot) (g.D.Depot.calls l.depot);
}

abbrev pub decreases-loop-self : goal.decreases-loop-self
decreases-loop-self g l = calls l.fn.self.plan - l.self.made
