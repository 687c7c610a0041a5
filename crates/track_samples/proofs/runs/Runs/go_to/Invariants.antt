use Rattle.std.proofs.Common.{◌≡◌, ◌-◌, ◌≤◌, ℕ, List}
use Rattle.me_disk.specs.Steps.{ReadsOnly}
use Rattle.me_disk.specs.Holds.{Holds}
use Rattle.me_disk.specs.Windows.{IsWindow}
use Rattle.sample_tables.specs.Samples.{samples_of}
use Rattle.track_samples.specs.Left.{runs_left}
use Rattle.track_samples.proofs.runs.Runs.go_to.Given as goal

-- the runs that were read begin at the chunk or before it
abbrev pub invariant-runs : goal.invariant-runs
invariant-runs g l = record {
  rows : l.self.rows ≡ l.fn.self.rows;
  next : l.self.next ≤ l.self.rows.count;
  window : IsWindow (g.D.Depot.disk l.depot) l.self.window;
  reads : ReadsOnly (g.D.Depot.disk l.fn.depot) (g.D.Depot.disk l.depot);
  ahead : (b : List ℕ) (n : ℕ) → Holds (g.D.Depot.disk l.fn.depot) b → l.chunk ≤ n
      → samples_of l.fn.self.samples n (runs_left b l.fn.self.rows l.fn.self.next) ≡ samples_of l.self.samples n (runs_left b l.self.rows l.self.next);
}

abbrev pub decreases-runs : goal.decreases-runs
decreases-runs g l = l.self.rows.count - l.self.next
