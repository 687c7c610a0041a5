use Rattle.std.proofs.Common.{◌≡◌, ◌+◌, ◌-◌, ℕ, List}
use Rattle.me_disk.specs.Holds.{Holds}
use Rattle.me_disk.specs.Steps.{ReadsOnly}
use Rattle.me_disk.specs.Windows.{IsWindow}
use Rattle.riff_form.specs.Walk.{row}
use Rattle.avi_names.specs.Names.{EndBy, names_of}
use Rattle.avi_names.proofs.Left.{NamesLeft}
use Rattle.avi_names.proofs.names.strl_names.Given as goal

-- what was found, with what is left, is all
abbrev pub invariant-chunks : goal.invariant-chunks
invariant-chunks g l = record {
  end : l.walker.end ≡ l.fn.strl.at + l.fn.strl.len;
  window : IsWindow (g.D.Depot.disk l.depot) l.walker.window;
  inside : EndBy (l.fn.strl.at + l.fn.strl.len) l.names.items;
  reads : ReadsOnly (g.D.Depot.disk l.fn.depot) (g.D.Depot.disk l.depot);
  left : (b : List ℕ) → Holds (g.D.Depot.disk l.fn.depot) b → NamesLeft l.walker.at (row b l.walker.at l.walker.end) l.names.items (names_of b l.fn.strl);
}

abbrev pub decreases-chunks : goal.decreases-chunks
decreases-chunks g l = l.walker.end - l.walker.at
