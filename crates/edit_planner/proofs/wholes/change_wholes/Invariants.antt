use Rattle.std.proofs.Common.{◌≡◌, ◌≤◌, ◌+◌, ◌++◌, take, drop, length}
use Rattle.edit_planner.specs.Row.{changed_row, count_row, edited_at, first_new, is_whole, new_whole}
use Rattle.edit_planner.proofs.wholes.change_wholes.Given as goal

-- the cells so far and those that are left are the whole
abbrev pub invariant-cells : goal.invariant-cells
invariant-cells l = record {
  same : length l.cells.items ≡ length l.fn.cells.items;
  few : l.count ≤ l.i;
  cells : take l.i l.cells.items ++ changed_row (is_whole l.word.0) (λ n x. edited_at x (first_new (new_whole l.word.0 l.value) n)) l.count (drop l.i l.cells.items)
      ≡ changed_row (is_whole l.word.0) (λ n x. edited_at x (first_new (new_whole l.word.0 l.value) n)) 0 l.fn.cells.items;
  count : l.count + count_row (is_whole l.word.0) (drop l.i l.cells.items) ≡ count_row (is_whole l.word.0) l.fn.cells.items;
}
