use Rattle.std.proofs.Common.{◌≡◌, ◌+◌, ◌-◌, ℕ, List}
use Rattle.me_disk.specs.Steps.{ReadsOnly}
use Rattle.me_disk.specs.Holds.{Holds}
use Rattle.me_disk.specs.Windows.{IsWindow}
use Rattle.qt_atoms.specs.declared.header.Parent.TheVariants.{UserData}
use Rattle.mov_file.specs.Fields.{StayLawful}
use Rattle.mov_file.proofs.Grown.{UserLeft}
use Rattle.mov_file.proofs.texts.take_user.Given as goal

-- the texts so far, and the items that are left
abbrev pub invariant-items : goal.invariant-items
invariant-items g l = record {
  end : l.walker.end ≡ l.fn.span.at + l.fn.span.len;
  parent : l.walker.parent ≡ UserData;
  reads : ReadsOnly (g.D.Depot.disk l.fn.depot) (g.D.Depot.disk l.depot);
  window : IsWindow (g.D.Depot.disk l.depot) l.walker.window;
  lawful : StayLawful l.fn.fields l.fields;
  left : (b : List ℕ) → Holds (g.D.Depot.disk l.fn.depot) b → UserLeft b l.fn.span.at l.walker.end l.fn.fields l.fields l.walker.at;
}

abbrev pub decreases-items : goal.decreases-items
decreases-items g l = l.walker.end - l.walker.at
