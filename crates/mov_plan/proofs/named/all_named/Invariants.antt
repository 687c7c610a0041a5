use Rattle.std.proofs.Common.{ℕ, List, drop}
use Rattle.std.specs.List.{AllByRecursion}
use Rattle.me_disk.specs.Steps.{ReadsOnly}
use Rattle.me_disk.specs.Holds.{Holds}
use Rattle.mov_plan.specs.Made.{IsNamed}
use Rattle.mov_plan.proofs.named.all_named.Given as goal

-- where the tables that are left can be named, all can
abbrev pub invariant-tables : goal.invariant-tables
invariant-tables g l = record {
  reads : ReadsOnly (g.D.Depot.disk l.fn.depot) (g.D.Depot.disk l.depot);
  left : (b : List ℕ) → Holds (g.D.Depot.disk l.fn.depot) b → AllByRecursion (IsNamed l.widened l.moves b) (drop l.table-index l.tables) → AllByRecursion (IsNamed l.widened l.moves b) l.tables;
}
