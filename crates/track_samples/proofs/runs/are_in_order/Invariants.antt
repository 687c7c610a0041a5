use Rattle.std.proofs.Common.{◌≡◌, ℕ, List}
use Rattle.me_disk.specs.Steps.{ReadsOnly}
use Rattle.me_disk.specs.Holds.{Holds}
use Rattle.me_disk.specs.Windows.{IsWindow}
use Rattle.sample_tables.specs.Samples.{ascend, start_at_one}
use Rattle.track_samples.specs.Left.{runs_left, runs_of}
use Rattle.track_samples.proofs.runs.are_in_order.Given as goal

-- the runs so far are in order, and those that are left say the rest
abbrev pub invariant-runs : goal.invariant-runs
invariant-runs g l = record {
  window : IsWindow (g.D.Depot.disk l.depot) l.window;
  reads : ReadsOnly (g.D.Depot.disk l.fn.depot) (g.D.Depot.disk l.depot);
  left : (b : List ℕ) → Holds (g.D.Depot.disk l.fn.depot) b → start_at_one (runs_of b l.rows) ≡ ascend l.low (runs_left b l.rows l.row);
}
