use Rattle.std.proofs.Common.{◌≡◌, ◌∙◌, ◌+◌, ◌++◌, ◌∷◌, ap, take, drop}
use Rattle.edit_planner.specs.declared.cells.CellAt.{CellAt}
use Rattle.edit_planner.specs.Row.{new_at, put_after}
use Rattle.edit_planner.proofs.AviRow.{put_after_is}
use Rattle.edit_planner.proofs.cells.put_behind.Goals as goal
use Rattle.edit_planner.proofs.cells.put_behind.Goals.{in-Err, in-Ok}

pub returns : goal.returns
returns c =
    let xs = c.args.cells.now.items in
    let k = c.args.k in
    let x = c.index.result.now in
    let put : take (k + 1) xs ++ new_at c.args.content x.next ∷ drop (k + 1) xs ≡ put_after (new_at c.args.content) k xs =
    ap (λ (y : CellAt). take (k + 1) xs ++ new_at c.args.content y.next ∷ drop (k + 1) xs) c.index.ensures ∙ put_after_is (new_at c.args.content) k xs x c.requires
    in
    elim c.match-insert.branch [ in-Err w ↦ rw w.result-is tt | in-Ok w ↦ rw w.result-is (w.in-Ok.ensures.items ∙ put) ]
