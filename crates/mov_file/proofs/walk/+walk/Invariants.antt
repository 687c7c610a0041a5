use Rattle.std.proofs.Common.{◌≡◌, ◌+◌, ◌-◌, ◌*◌, ℕ, List}
use Rattle.me_disk.specs.Steps.{ReadsOnly}
use Rattle.me_disk.specs.Holds.{Holds}
use Rattle.me_disk.specs.Windows.{IsWindow}
use Rattle.container_model.specs.Walk.{Step}
use Rattle.mov_model.specs.Atoms.{Place}
use Rattle.mov_file.specs.Holder.{level_in, parent_of, place_of}
use Rattle.mov_file.specs.Sound.{LiesIn}
use Rattle.mov_file.specs.Walked.{Few, Knows, told_in}
use Rattle.mov_file.proofs.Walks.{IsLeft}
use Rattle.mov_file.proofs.walk.+walk.Given as goal

abbrev pub decreases-walk_atom : goal.decreases-walk_atom
decreases-walk_atom g l = 2 * l.depth

abbrev pub decreases-walk_atoms : goal.decreases-walk_atoms
decreases-walk_atoms g l = 2 * l.depth + 1

-- the steps so far are met, and those that are left say the rest
abbrev pub invariant-walk_atoms-atoms : goal.invariant-walk_atoms-atoms
invariant-walk_atoms-atoms g l = record {
  end : l.walker.end ≡ l.fn.span.at + l.fn.span.len;
  parent : l.walker.parent ≡ parent_of l.holder;
  few : Few l.reading;
  lies : LiesIn l.holder l.fn.span.at l.walker.at l.fn.reading l.reading;
  reads : ReadsOnly (g.D.Depot.disk l.fn.depot) (g.D.Depot.disk l.depot);
  window : IsWindow (g.D.Depot.disk l.depot) l.walker.window;
  left : (b : List ℕ) (before : List (Step Place)) → Holds (g.D.Depot.disk l.fn.depot) b → Knows l.fn.reading before
      → IsLeft before (told_in l.depth (place_of l.holder) (level_in l.holder) b l.fn.span.at (l.fn.span.at + l.fn.span.len)) (told_in l.depth (place_of l.holder) (level_in l.holder) b l.walker.at l.walker.end) l.fn.reading l.reading;
}

abbrev pub decreases-walk_atoms-atoms : goal.decreases-walk_atoms-atoms
decreases-walk_atoms-atoms g l = l.walker.end - l.walker.at
