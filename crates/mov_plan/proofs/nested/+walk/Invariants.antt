use Rattle.std.proofs.Common.{◌≡◌, ◌≤◌, ◌+◌, ◌-◌, ◌*◌, ℕ, List}
use Rattle.me_disk.specs.Steps.{ReadsOnly}
use Rattle.me_disk.specs.Holds.{Holds}
use Rattle.me_disk.specs.Windows.{IsWindow}
use Rattle.container_model.specs.Walk.{along, walk}
use Rattle.mov_model.specs.Atoms.{format}
use Rattle.qt_atoms.specs.Walk.{row}
use Rattle.mov_plan.specs.Within.{level_in, parent_in, place_in}
use Rattle.mov_plan.proofs.Nesting.{IsLeft}
use Rattle.mov_plan.proofs.nested.+walk.Given as goal

abbrev pub decreases-walk_atom : goal.decreases-walk_atom
decreases-walk_atom g l = 2 * l.depth

abbrev pub decreases-walk_atoms : goal.decreases-walk_atoms
decreases-walk_atoms g l = 2 * l.depth + 1

-- the atoms so far, and those that are left
abbrev pub invariant-walk_atoms-atoms : goal.invariant-walk_atoms-atoms
invariant-walk_atoms-atoms g l = record {
  end : l.walker.end ≡ l.fn.span.at + l.fn.span.len;
  parent : l.walker.parent ≡ parent_in l.within;
  few : l.fn.span.at + l.count ≤ l.walker.at;
  reads : ReadsOnly (g.D.Depot.disk l.fn.depot) (g.D.Depot.disk l.depot);
  window : IsWindow (g.D.Depot.disk l.depot) l.walker.window;
  left : (b : List ℕ) → Holds (g.D.Depot.disk l.fn.depot) b
      → IsLeft (along (walk format l.depth (place_in l.within)) l.fn.span.at (row (level_in l.within) b l.fn.span.at (l.fn.span.at + l.fn.span.len)).chunks)
      (along (walk format l.depth (place_in l.within)) l.walker.at (row (level_in l.within) b l.walker.at l.walker.end).chunks) l.count l.fn.holders.items l.holders.items;
}

abbrev pub decreases-walk_atoms-atoms : goal.decreases-walk_atoms-atoms
decreases-walk_atoms-atoms g l = l.walker.end - l.walker.at
