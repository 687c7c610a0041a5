use Rattle.std.proofs.Common.{◌≡◌, ◌≤◌, ◌+◌, ◌-◌, ℕ, List}
use Rattle.me_disk.specs.Steps.{ReadsOnly}
use Rattle.me_disk.specs.Holds.{Holds}
use Rattle.me_disk.specs.Windows.{IsWindow}
use Rattle.qt_atoms.specs.declared.header.Parent.TheVariants.{Atom}
use Rattle.qt_text.specs.User.{udta}
use Rattle.mov_file.proofs.Carried.{KidsLeft}
use Rattle.mov_file.proofs.carriers.find_user.Given as goal

-- no atom so far meets the test
abbrev pub invariant-kids : goal.invariant-kids
invariant-kids g l = record {
  end : l.walker.end ≡ l.fn.span.at + l.fn.span.len;
  parent : l.walker.parent ≡ Atom;
  low : l.fn.span.at ≤ l.walker.at;
  reads : ReadsOnly (g.D.Depot.disk l.fn.depot) (g.D.Depot.disk l.depot);
  window : IsWindow (g.D.Depot.disk l.depot) l.walker.window;
  left : (b : List ℕ) → Holds (g.D.Depot.disk l.fn.depot) b → KidsLeft udta.is b l.fn.span.at l.walker.at l.walker.end;
}

abbrev pub decreases-kids : goal.decreases-kids
decreases-kids g l = l.walker.end - l.walker.at
