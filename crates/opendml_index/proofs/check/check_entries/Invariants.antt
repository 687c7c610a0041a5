use Rattle.std.proofs.Common.{◌≤◌, ℕ, List, drop}
use Rattle.std.specs.Prelude.{◌^◌}
use Rattle.std.specs.List.{AllByRecursion}
use Rattle.me_disk.specs.Holds.{Holds}
use Rattle.me_disk.specs.Steps.{ReadsOnly}
use Rattle.me_disk.specs.Windows.{IsWindow}
use Rattle.opendml_index.specs.Entries.{width_by}
use Rattle.opendml_index.specs.Checks.{EndInside}
use Rattle.opendml_index.proofs.Left.{IsLeft}
use Rattle.opendml_index.proofs.check.check_entries.Given as goal

-- the entries that are left, with those that were counted, are the whole
abbrev pub invariant-entries : goal.invariant-entries
invariant-entries g l = record {
  window : IsWindow (g.D.Depot.disk l.depot) l.window;
  reads : ReadsOnly (g.D.Depot.disk l.fn.depot) (g.D.Depot.disk l.depot);
  few : l.counted ≤ l.k;
  left : (b : List ℕ) → Holds (g.D.Depot.disk l.fn.depot) b → AllByRecursion (EndInside (2 ^ 64)) l.movis
      → IsLeft l.movis l.indexes l.table.base (width_by l.table.two_fields) l.table.used l.k l.counted (drop l.table.at b);
}
