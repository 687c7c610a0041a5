use Rattle.std.proofs.Common.{◌≡◌, ◌≤◌, ◌+◌, ◌++◌, take, drop, length}
use Rattle.bext_fields.specs.Change.{raw_items_of}
use Rattle.edit_planner.specs.Cells.{AreReadable}
use Rattle.edit_planner.specs.Row.{changed_row, count_row, is_body, body_edited}
use Rattle.edit_planner.proofs.bext.change_bodies.Given as goal

-- the cells so far and those that are left are the whole
abbrev pub invariant-cells : goal.invariant-cells
invariant-cells l = record {
  same : length l.cells.items ≡ length l.fn.cells.items;
  few : l.count ≤ l.i;
  readable : AreReadable (drop l.i l.cells.items);
  cells : take l.i l.cells.items ++ changed_row is_body (λ n x. body_edited (raw_items_of l.changes) x) l.count (drop l.i l.cells.items)
      ≡ changed_row is_body (λ n x. body_edited (raw_items_of l.changes) x) 0 l.fn.cells.items;
  count : l.count + count_row is_body (drop l.i l.cells.items) ≡ count_row is_body l.fn.cells.items;
}
