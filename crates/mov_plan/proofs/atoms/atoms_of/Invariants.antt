use Rattle.std.proofs.Common.{◌≡◌, ◌≤◌, ◌-◌, ℕ, List}
use Rattle.me_disk.specs.Steps.{ReadsOnly}
use Rattle.me_disk.specs.Holds.{Holds}
use Rattle.me_disk.specs.Windows.{IsWindow}
use Rattle.qt_atoms.specs.declared.header.Parent.TheVariants.{Atom}
use Rattle.mov_plan.proofs.Rowing.{FollowLeft, RowLeft}
use Rattle.mov_plan.proofs.atoms.atoms_of.Given as goal

-- the atoms so far, and those that are left
abbrev pub invariant-atoms : goal.invariant-atoms
invariant-atoms g l = record {
  end : l.walker.end ≡ l.end;
  parent : l.walker.parent ≡ Atom;
  low : l.from ≤ l.walker.at;
  follow : FollowLeft l.from l.atoms.items l.walker.at l.walker.end;
  reads : ReadsOnly (g.D.Depot.disk l.fn.depot) (g.D.Depot.disk l.depot);
  window : IsWindow (g.D.Depot.disk l.depot) l.walker.window;
  left : (b : List ℕ) → Holds (g.D.Depot.disk l.fn.depot) b → RowLeft b l.from l.atoms.items l.walker.at l.walker.end;
}

abbrev pub decreases-atoms : goal.decreases-atoms
decreases-atoms g l = l.walker.end - l.walker.at
