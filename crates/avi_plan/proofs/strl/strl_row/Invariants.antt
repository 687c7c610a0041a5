use Rattle.std.proofs.Common.{◌≡◌, ◌+◌, ◌-◌, ℕ, List, map, false}
use Rattle.me_bytes.specs.Bytes.{IsBytes}
use Rattle.me_disk.specs.Holds.{Holds}
use Rattle.me_disk.specs.Steps.{ReadsOnly}
use Rattle.me_disk.specs.Windows.{IsWindow}
use Rattle.container_model.specs.Chunk.{Chunk}
use Rattle.riff_form.specs.Walk.{row}
use Rattle.unit_plan.specs.Places.{Follow, shape_in}
use Rattle.avi_names.specs.Names.{chunks_of}
use Rattle.avi_plan.specs.Strls.{IsSpelled, cells_from, shapes}
use Rattle.avi_plan.proofs.Rowed.{CountLeft, RowLeft}
use Rattle.avi_plan.proofs.strl.strl_row.Given as goal

-- the places so far, with what is left, are all
abbrev pub invariant-chunks : goal.invariant-chunks
invariant-chunks g l = record {
  end : l.walker.end ≡ l.fn.strl.at + l.fn.strl.len;
  window : IsWindow (g.D.Depot.disk l.depot) l.walker.window;
  reads : ReadsOnly (g.D.Depot.disk l.fn.depot) (g.D.Depot.disk l.depot);
  at : l.row.at ≡ l.walker.at;
  follow : Follow l.fn.strl.at l.row.places.items l.row.at;
  left : (b : List ℕ) → Holds (g.D.Depot.disk l.fn.depot) b → CountLeft l.walker.at l.row.chunks (row b l.walker.at l.walker.end) (chunks_of b l.fn.strl) l.fn.strl.at;
  shaped : (b : List ℕ) (ns : List Chunk) → Holds (g.D.Depot.disk l.fn.depot) b → IsBytes b → IsSpelled ns l.fn.new
      → RowLeft b ns l.fn.place l.row.named l.walker.at (row b l.walker.at l.walker.end) (map (shape_in b) l.row.places.items) (shapes (cells_from ns l.fn.place false l.fn.strl.at (chunks_of b l.fn.strl).chunks));
}

abbrev pub decreases-chunks : goal.decreases-chunks
decreases-chunks g l = l.walker.end - l.walker.at
