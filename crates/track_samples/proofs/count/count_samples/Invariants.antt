use Rattle.std.proofs.Common.{◌≡◌, ◌+◌, ◌-◌, ◌*◌, ◌≤◌, ℕ, List}
use Rattle.me_disk.specs.Steps.{ReadsOnly}
use Rattle.me_disk.specs.Holds.{Holds}
use Rattle.me_disk.specs.Windows.{IsWindow}
use Rattle.sample_tables.specs.Samples.{samples_from, samples_of}
use Rattle.track_samples.specs.Left.{runs_left, runs_of, sizes_left, width_of}
use Rattle.track_samples.specs.Tables.{total}
use Rattle.track_samples.proofs.Counted.{tails_at}
use Rattle.track_samples.proofs.count.count_samples.Given as goal

-- the samples of the chunks so far, and those of the chunks that are left
abbrev pub invariant-chunks : goal.invariant-chunks
invariant-chunks g l = record {
  rows : l.runs.rows ≡ l.fn.runs.rows;
  table : l.sizes.table ≡ l.fn.sizes.table;
  next_run : l.runs.next ≤ l.runs.rows.count;
  next_size : l.sizes.next ≤ l.sizes.table.rows.count;
  few : l.counted ≤ l.sizes.next;
  window : IsWindow (g.D.Depot.disk l.depot) l.window;
  runs_window : IsWindow (g.D.Depot.disk l.depot) l.runs.window;
  sizes_window : IsWindow (g.D.Depot.disk l.depot) l.sizes.window;
  reads : ReadsOnly (g.D.Depot.disk l.fn.depot) (g.D.Depot.disk l.depot);
  runs : (b : List ℕ) (n : ℕ) → Holds (g.D.Depot.disk l.fn.depot) b → l.chunk + 1 ≤ n
      → samples_of 0 n (runs_of b l.fn.runs.rows) ≡ samples_of l.runs.samples n (runs_left b l.runs.rows l.runs.next);
  left : (b : List ℕ) → Holds (g.D.Depot.disk l.fn.depot) b
      → l.counted + total (samples_from (runs_of b l.fn.runs.rows) (l.chunk + 1) (sizes_left b l.sizes.table l.sizes.next) (tails_at b l.mdats l.wide (l.places.count - l.chunk) (l.places.at + (width_of l.wide).bytes * l.chunk)))
      ≡ total (samples_from (runs_of b l.fn.runs.rows) 1 (sizes_left b l.fn.sizes.table 0) (tails_at b l.mdats l.wide l.places.count l.places.at));
}
