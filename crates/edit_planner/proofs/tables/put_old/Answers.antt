use Rattle.std.proofs.Common.{◌≡◌, ◌∙◌, ◌+◌, ap, arith, sym, List}
use Rattle.avi_plan.specs.declared.table.TableAt.{TableAt}
use Rattle.edit_planner.specs.TablesAt.{number_behind, old_at}
use Rattle.edit_planner.proofs.AviTables.{put_table_is}
use Rattle.edit_planner.proofs.tables.put_old.Goals as goal

pub returns-in-Ok : goal.returns-in-Ok
returns-in-Ok c =
    let o = c.args.old.now in
    let end : c.in-Some.end ≡ o.body.at + o.body.len = omega (arith, c.in-Some.ensures) in
    c.in-Ok.ensures.items
    ∙ put_table_is (old_at o) c.place_for-k.result c.in-Some.end c.args.tables.now.items end (c.place_for-k.ensures.place ∙ ap (λ (xs : List TableAt). number_behind c.in-Some.end xs) c.deref.ensures.value)
