use Rattle.std.proofs.Common.{◌≡◌, ◌≤◌, ◌+◌, ◌++◌, take, drop, length}
use Rattle.part_tree.specs.Large.{first_above}
use Rattle.edit_planner.specs.Cells.{AreReadable}
use Rattle.edit_planner.specs.Row.{changed_row, count_row, is_list}
use Rattle.edit_planner.specs.Lists.{list_edited, sizes_in}
use Rattle.edit_planner.proofs.lists.change_lists.Given as goal

-- the cells so far and those that are left are the whole
abbrev pub invariant-cells : goal.invariant-cells
invariant-cells l = record {
  same : length l.cells.items ≡ length l.fn.cells.items;
  few : l.count ≤ l.i;
  readable : AreReadable (drop l.i l.cells.items);
  cells : take l.i l.cells.items ++ changed_row is_list (λ n x. list_edited l.homed n x) l.count (drop l.i l.cells.items)
      ≡ changed_row is_list (λ n x. list_edited l.homed n x) 0 l.fn.cells.items;
  count : l.count + count_row is_list (drop l.i l.cells.items) ≡ count_row is_list l.fn.cells.items;
  sizes : first_above (sizes_in l.homed l.count (drop l.i l.cells.items)) ≡ first_above (sizes_in l.homed 0 l.fn.cells.items);
}
