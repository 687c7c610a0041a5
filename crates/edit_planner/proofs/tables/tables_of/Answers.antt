use Rattle.std.proofs.Common.{◌≡◌, ◌∙◌, ap, map, subst}
use Rattle.avi_file.specs.Map.{TellsOld}
use Rattle.edit_planner.specs.TablesAt.{told_chunk}
use Rattle.edit_planner.proofs.AviTables.{none_told, one_told}
use Rattle.edit_planner.proofs.tables.tables_of.Goals as goal

pub returns-in-None : goal.returns-in-None
returns-in-None c = λ b mapped.
    none_told b c.in_ok-chunks.chunks.items c.in_ok-tables.tables.items (subst (TellsOld b) c.in-None.is mapped.idx1) (c.in_ok-chunks.ensures b mapped) (c.in_ok-tables.ensures ∙ ap (map told_chunk) c.deref.ensures.value)

pub returns : goal.returns
returns c = λ b mapped.
    one_told b c.in_ok-chunks.chunks.items c.in_ok-tables.tables.items c.put_old.new.tables.items c.in-Some.old (subst (TellsOld b) c.in-Some.is mapped.idx1) (c.in_ok-chunks.ensures b mapped)
    (c.in_ok-tables.ensures ∙ ap (map told_chunk) c.deref.ensures.value) c.in_ok-put_old-in-Some.ensures
