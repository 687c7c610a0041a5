use Rattle.std.proofs.Common.{◌≡◌, ◌+◌, ◌-◌, ℕ, List}
use Rattle.me_disk.specs.Holds.{Holds}
use Rattle.me_disk.specs.Steps.{ReadsOnly}
use Rattle.me_disk.specs.Windows.{IsWindow}
use Rattle.riff_form.specs.Walk.{row}
use Rattle.avi_names.specs.Names.{new_place}
use Rattle.avi_names.proofs.Left.{PlaceLeft}
use Rattle.avi_names.proofs.names.strl_new_place.Given as goal

-- what was found, with what is left, is all
abbrev pub invariant-chunks : goal.invariant-chunks
invariant-chunks g l = record {
  end : l.walker.end ≡ l.fn.strl.at + l.fn.strl.len;
  window : IsWindow (g.D.Depot.disk l.depot) l.walker.window;
  reads : ReadsOnly (g.D.Depot.disk l.fn.depot) (g.D.Depot.disk l.depot);
  left : (b : List ℕ) → Holds (g.D.Depot.disk l.fn.depot) b → PlaceLeft l.walker.at (row b l.walker.at l.walker.end) l.found (new_place b l.fn.strl);
}

abbrev pub decreases-chunks : goal.decreases-chunks
decreases-chunks g l = l.walker.end - l.walker.at
