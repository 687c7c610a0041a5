use Rattle.std.proofs.Common.{◌-◌, ◌≡◌, ◌≤◌, ℕ, List, length}
use Rattle.me_disk.specs.Steps.{ReadsOnly}
use Rattle.me_disk.specs.Holds.{Holds}
use Rattle.me_disk.specs.Windows.{IsWindow}
use Rattle.wave_file.specs.Reads.{IsForm, IsLeft, IsPartial}
use Rattle.wave_file.specs.Sized.{run_at, state_of}
use Rattle.wave_file.proofs.form.read_chunks.Given as goal

-- what is read so far and what is left are the whole
abbrev pub invariant-chunks : goal.invariant-chunks
invariant-chunks g l = record {
  end : l.walker.end ≡ l.fn.end;
  partial : IsPartial l.reading l.walker.at;
  few : length l.sizing.wides.items ≤ l.reading.count;
  same : l.sizing.ds64 ≡ l.fn.sizing.ds64;
  window : IsWindow (g.D.Depot.disk l.depot) l.walker.window;
  reads : ReadsOnly (g.D.Depot.disk l.fn.depot) (g.D.Depot.disk l.depot);
  left : (b : List ℕ) → Holds (g.D.Depot.disk l.fn.depot) b → IsForm b l.fn.sizing.ds64 l.fn.end → IsLeft b (run_at (state_of l.sizing) b l.walker.at l.walker.end) l.walker.at l.reading;
}

abbrev pub decreases-chunks : goal.decreases-chunks
decreases-chunks g l = l.walker.end - l.walker.at
