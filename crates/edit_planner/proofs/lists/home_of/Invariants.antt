use Rattle.std.proofs.Common.{◌≡◌, ◌≤◌, drop}
use Rattle.edit_planner.specs.Lists.{all_marks, home_from}
use Rattle.edit_planner.proofs.lists.home_of.Given as goal

abbrev pub invariant-cells : goal.invariant-cells
invariant-cells l = record {
  few : l.n ≤ l.cell-index;
  left : home_from l.n (all_marks (drop l.cell-index l.cells)) l.id.0 ≡ home_from 0 (all_marks l.cells) l.id.0;
}
