use Rattle.std.proofs.Common.{◌-◌, ◌≡◌, ◌≤◌, ℕ, List}
use Rattle.me_disk.specs.Steps.{ReadsOnly}
use Rattle.me_disk.specs.Holds.{Holds}
use Rattle.me_disk.specs.Windows.{IsWindow}
use Rattle.riff_form.specs.Walk.{row}
use Rattle.avi_file.specs.Walk.{KeepsPlaces, plain_told, run_told}
use Rattle.avi_file.proofs.Left.{IsLeft}
use Rattle.avi_file.proofs.list.read_chunks.Given as goal

-- what is read so far and what is left are the whole
abbrev pub invariant-chunks : goal.invariant-chunks
invariant-chunks g l = record {
  end : l.walker.end ≡ l.fn.end;
  least : l.fn.start ≤ l.walker.at;
  window : IsWindow (g.D.Depot.disk l.depot) l.walker.window;
  reads : ReadsOnly (g.D.Depot.disk l.fn.depot) (g.D.Depot.disk l.depot);
  placed : KeepsPlaces l.fn.start l.walker.at l.walker.at l.fn.reading.parts.items l.reading.parts.items;
  left : (b : List ℕ) → Holds (g.D.Depot.disk l.fn.depot) b
      → IsLeft (run_told (plain_told l.inside) l.fn.start (row b l.fn.start l.fn.end)) (run_told (plain_told l.inside) l.walker.at (row b l.walker.at l.walker.end)) l.fn.reading l.reading;
}

abbrev pub decreases-chunks : goal.decreases-chunks
decreases-chunks g l = l.walker.end - l.walker.at
