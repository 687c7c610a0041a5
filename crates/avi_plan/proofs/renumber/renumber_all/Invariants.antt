use Rattle.std.proofs.Common.{◌≡◌, ℕ, List, map}
use Rattle.std.specs.List.{AllByRecursion}
use Rattle.me_disk.specs.Holds.{Holds}
use Rattle.me_disk.specs.Steps.{ReadsOnly}
use Rattle.avi_index.specs.Rows.{Base}
use Rattle.avi_plan.specs.Changes.{IsNamed, IsSound}
use Rattle.avi_plan.specs.Tables.{IsTabled, Tabled, table_at}
use Rattle.avi_plan.proofs.Renumbered.{IsLeft}
use Rattle.avi_plan.proofs.renumber.renumber_all.Given as goal

-- the changes so far, and the tables that are left
abbrev pub invariant-tables : goal.invariant-tables
invariant-tables g l = record {
  reads : ReadsOnly (g.D.Depot.disk l.fn.depot) (g.D.Depot.disk l.depot);
  sound : AllByRecursion (IsSound l.len) l.changes.items;
  named : (b : List ℕ) → Holds (g.D.Depot.disk l.fn.depot) b → AllByRecursion (IsNamed l.moves b) l.changes.items;
  left : (b : List ℕ) (movi : ℕ) (base : Base) (xs : List Tabled) → Holds (g.D.Depot.disk l.fn.depot) b → AllByRecursion (IsTabled b) xs → l.tables ≡ map (table_at movi base) xs
      → IsLeft l.moves b base xs l.table-index l.changes.items;
}
