use Rattle.std.proofs.Common.{◌<◌, arith, length}
use Rattle.std.proofs.lemmas.List.{length-set}
use Rattle.bext_fields.specs.Change.{raw_items_of}
use Rattle.edit_planner.specs.Row.{is_body, body_edited}
use Rattle.edit_planner.proofs.Row.{change_step, count_step, count_few}
use Rattle.edit_planner.proofs.BextChunk.{readable_next, readable_more}
use Rattle.edit_planner.proofs.bext.change_bodies.Goals as goal

pub cells-preserved : goal.cells-preserved
cells-preserved c =
    let xs = c.cells.cells.items in
    let i = c.cells.i in
    let x = c.index_mut.result.now in
    let y = c.body_at.new.cell in
    let e = raw_items_of c.args.changes.now in
    let lt : i < length xs = omega arith in
    record {
      same = omega (arith, length-set xs i y);
      few = count_few (is_body x.content) c.cells.count c.in_ok-count.count i c.in_ok-count.ensures.count c.cells.invariant.few;
      readable = readable_more xs i y (readable_next xs i x x lt c.index_mut.ensures.value c.cells.invariant.readable).1;
      cells = change_step is_body (λ n z. body_edited e z) c.cells.count c.in_ok-count.count xs _ i x y x lt c.index_mut.ensures.value c.in_ok-count.ensures.cell c.in_ok-count.ensures.count c.cells.invariant.cells;
      count = count_step is_body c.cells.count c.in_ok-count.count xs _ i x y x lt c.index_mut.ensures.value c.in_ok-count.ensures.count c.cells.invariant.count;
    }
