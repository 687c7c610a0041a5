use Rattle.std.proofs.Common.{◌≡◌, ◌-◌, ℕ, List, length}
use Rattle.me_disk.specs.Steps.{ReadsOnly}
use Rattle.me_disk.specs.Holds.{Holds}
use Rattle.me_disk.specs.Windows.{IsWindow}
use Rattle.qt_atoms.specs.declared.header.Parent.TheVariants.{File}
use Rattle.mov_file.proofs.FirstMoov.{Ahead}
use Rattle.mov_file.proofs.moov.find_moov.Given as goal

-- no atom so far is `moov`
abbrev pub invariant-atoms : goal.invariant-atoms
invariant-atoms g l = record {
  end : l.walker.end ≡ l.fn.len;
  parent : l.walker.parent ≡ File;
  reads : ReadsOnly (g.D.Depot.disk l.fn.depot) (g.D.Depot.disk l.depot);
  window : IsWindow (g.D.Depot.disk l.depot) l.walker.window;
  ahead : (b : List ℕ) → Holds (g.D.Depot.disk l.fn.depot) b → length b ≡ l.fn.len → Ahead b l.walker.at l.walker.end;
}

abbrev pub decreases-atoms : goal.decreases-atoms
decreases-atoms g l = l.walker.end - l.walker.at
