use Rattle.std.proofs.Common.{◌≤◌, ◌/◌, ℕ, List}
use Rattle.me_disk.specs.Holds.{Holds}
use Rattle.me_disk.specs.Steps.{ReadsOnly}
use Rattle.container_model.specs.Written.{slice}
use Rattle.me_disk.specs.Windows.{IsWindow}
use Rattle.avi_index.specs.Checks.{model_base}
use Rattle.avi_index.proofs.Checks.{IsLeft}
use Rattle.avi_index.proofs.check.check_idx1.Given as goal

-- the entries that are left, with those that were counted, are the whole
abbrev pub invariant-entries : goal.invariant-entries
invariant-entries g l = record {
  window : IsWindow (g.D.Depot.disk l.depot) l.window;
  reads : ReadsOnly (g.D.Depot.disk l.fn.depot) (g.D.Depot.disk l.depot);
  few : l.counted ≤ l.k;
  left : (b : List ℕ) → Holds (g.D.Depot.disk l.fn.depot) b → IsLeft (model_base l.base) l.movi l.indexes (l.idx.len / 16) l.k l.counted (slice b l.idx.at l.idx.len);
}
