use Rattle.std.proofs.Common.{◌∙◌}
use Rattle.edit_planner.specs.Row.{new_at}
use Rattle.edit_planner.proofs.Row.{put_done}
use Rattle.edit_planner.proofs.cells.put_cell.Goals as goal
use Rattle.edit_planner.proofs.cells.put_cell.Goals.{in-Err, in-Ok}

pub returns : goal.returns
returns c =
    let put = put_done c.args.before_format (new_at c.args.content) c.args.from c.place_for-k.result c.start_of-at.result c.args.cells.now.items _ _ c.deref.ensures.value c.deref-2.ensures.value c.place_for-k.ensures.place c.start_of-at.ensures in
    elim c.match-insert.branch [ in-Err w ↦ rw w.result-is tt | in-Ok w ↦ rw w.result-is (w.in-Ok.ensures.items ∙ put) ]
