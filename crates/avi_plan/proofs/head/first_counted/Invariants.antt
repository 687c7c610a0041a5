use Rattle.std.proofs.Common.{◌≡◌, ◌+◌, ◌-◌, ◌*◌, ℕ, List, drop}
use Rattle.me_disk.specs.Holds.{Holds}
use Rattle.me_disk.specs.Steps.{ReadsOnly}
use Rattle.me_disk.specs.Windows.{IsWindow}
use Rattle.container_model.specs.Written.{rows}
use Rattle.opendml_index.specs.Entries.{width_by}
use Rattle.opendml_index.specs.Index.{first_counted}
use Rattle.avi_plan.specs.Heads.{first_in}
use Rattle.avi_plan.proofs.head.first_counted.Given as goal

-- none was counted so far
abbrev pub invariant-entries : goal.invariant-entries
invariant-entries g l = record {
  window : IsWindow (g.D.Depot.disk l.depot) l.window;
  reads : ReadsOnly (g.D.Depot.disk l.fn.depot) (g.D.Depot.disk l.depot);
  left : (b : List ℕ) → Holds (g.D.Depot.disk l.fn.depot) b
      → first_counted (rows (width_by l.head.two_fields) (l.head.used - l.k) (drop (l.from + width_by l.head.two_fields * l.k) b)) ≡ first_in l.head (drop l.from b);
}
