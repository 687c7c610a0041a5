use Rattle.std.proofs.Common.{◌≡◌, drop}
use Rattle.edit_planner.specs.Row.{place_from}
use Rattle.edit_planner.proofs.cells.place_for.Given as goal

-- what is found in the cells that are left is what is found in all
abbrev pub invariant-cells : goal.invariant-cells
invariant-cells l = record {
  count : l.k ≡ l.cell-index;
  left : place_from l.before_format l.k l.last (drop l.cell-index l.cells) ≡ place_from l.before_format 0 0 l.cells;
}
