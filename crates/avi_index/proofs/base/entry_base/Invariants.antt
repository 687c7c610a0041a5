use Rattle.std.proofs.Common.{◌/◌, ℕ, List}
use Rattle.me_disk.specs.Holds.{Holds}
use Rattle.me_disk.specs.Steps.{ReadsOnly}
use Rattle.container_model.specs.Written.{slice}
use Rattle.me_disk.specs.Windows.{IsWindow}
use Rattle.avi_index.proofs.Bases.{IsUndecided}
use Rattle.avi_index.proofs.base.entry_base.Given as goal

-- the entries that are left decide
abbrev pub invariant-entries : goal.invariant-entries
invariant-entries g l = record {
  window : IsWindow (g.D.Depot.disk l.depot) l.window;
  reads : ReadsOnly (g.D.Depot.disk l.fn.depot) (g.D.Depot.disk l.depot);
  left : (b : List ℕ) → Holds (g.D.Depot.disk l.fn.depot) b → IsUndecided b l.indexes l.movi (l.idx.len / 16) l.k (slice b l.idx.at l.idx.len);
}
