use Rattle.std.proofs.Common.{◌≡◌, ◌+◌, ◌-◌, ℕ, List}
use Rattle.me_disk.specs.Steps.{ReadsOnly}
use Rattle.me_disk.specs.Holds.{Holds}
use Rattle.me_disk.specs.Windows.{IsWindow}
use Rattle.container_model.specs.Walk.{Step}
use Rattle.mov_model.specs.Atoms.{Place}
use Rattle.qt_atoms.specs.declared.header.Parent.TheVariants.{Atom}
use Rattle.mov_file.specs.Sound.{LiesIn}
use Rattle.mov_file.specs.declared.holder.Holder.TheVariants.{Moov}
use Rattle.mov_file.specs.Walked.{Few, Knows, moov_told}
use Rattle.mov_file.proofs.Walks.{IsLeft}
use Rattle.mov_file.proofs.walk.walk_moov.Given as goal

-- the steps so far are met, and those that are left say the rest
abbrev pub invariant-kids : goal.invariant-kids
invariant-kids g l = record {
  end : l.walker.end ≡ l.fn.span.at + l.fn.span.len;
  parent : l.walker.parent ≡ Atom;
  few : Few l.reading;
  lies : LiesIn Moov l.fn.span.at l.walker.at l.fn.reading l.reading;
  reads : ReadsOnly (g.D.Depot.disk l.fn.depot) (g.D.Depot.disk l.depot);
  window : IsWindow (g.D.Depot.disk l.depot) l.walker.window;
  left : (b : List ℕ) (before : List (Step Place)) → Holds (g.D.Depot.disk l.fn.depot) b → Knows l.fn.reading before
      → IsLeft before (moov_told l.fn.reading.has_user b l.fn.span.at (l.fn.span.at + l.fn.span.len)) (moov_told l.reading.has_user b l.walker.at l.walker.end) l.fn.reading l.reading;
}

abbrev pub decreases-kids : goal.decreases-kids
decreases-kids g l = l.walker.end - l.walker.at
