use Rattle.std.proofs.Common.{◌≡◌, ◌∙◌, ◌^◌, ap, arith, map, refl, subst, sym, List, ℕ}
use Rattle.std.specs.Prelude.{None, Some}
use Rattle.part_tree.specs.Large.{first_above, limited}
use Rattle.bext_fields.specs.Change.{raw_items_of}
use Rattle.unit_plan.specs.declared.place.Place.{Place}
use Rattle.unit_plan.specs.Places.{Follow}
use Rattle.avi_model.specs.Avi.{avi_of}
use Rattle.avi_model.specs.Edited.{info_edit}
use Rattle.edit_planner.specs.Avi.{avi_cells, avi_held}
use Rattle.edit_planner.specs.AviPlaces.{avi_sizes}
use Rattle.edit_planner.specs.Cells.{told_row_by}
use Rattle.edit_planner.specs.Stand.{placed}
use Rattle.edit_planner.specs.Tops.{avi_role}
use Rattle.edit_planner.proofs.AviForms.{are_riff, children_stand}
use Rattle.edit_planner.proofs.AviPlaced.{lists_small, places_told}
use Rattle.edit_planner.proofs.AviRow.{avi_loaded}
use Rattle.edit_planner.proofs.Shaped.{places_follow}
use Rattle.edit_planner.proofs.avi.avi_places.Goals as goal

pub returns-in-Err-TooLarge-clause-places : goal.returns-in-Err-TooLarge-clause-places
returns-in-Err-TooLarge-clause-places g c = λ b holds bytes t.
    let cs = (avi_of b).children in
    let before : c.in-Ok.loaded.cells.items ≡ told_row_by avi_held 12 (avi_cells cs) = c.in-Ok.ensures.cells b holds avi_role cs (c.deref.ensures.value ∙ t.chunks_are) (children_stand b) ∙ avi_loaded 12 cs in
    let large : first_above (avi_sizes b (info_edit (raw_items_of c.args.changes.now))) ≡ Some (limited (2 ^ 24) c.in-Err-TooLarge.size) =
    rw c.in-Err-TooLarge.field-0-is at (c.in-Err-TooLarge.ensures.large cs (lists_small b t.form.supported) before)
    in
    large ∙ ap (λ (n : ℕ). Some (limited (2 ^ 24) n)) (sym c.in-Err-TooLarge.size-is)

pub returns-clause-places : goal.returns-clause-places
returns-clause-places g c = λ b holds bytes t.
    let cs = (avi_of b).children in
    let e = info_edit (raw_items_of c.args.changes.now) in
    let before : c.in-Ok.loaded.cells.items ≡ told_row_by avi_held 12 (avi_cells cs) = c.in-Ok.ensures.cells b holds avi_role cs (c.deref.ensures.value ∙ t.chunks_are) (children_stand b) ∙ avi_loaded 12 cs in
    let lists : first_above (avi_sizes b e) ≡ None = c.in-Ok-edit_row.ensures.large cs (lists_small b t.form.supported) before in
    let row = c.in-Ok-edit_row.ensures.told cs c.args.form.now.head t.head refl (are_riff b) before in (
      places_told b c.args.lacks_pad e c.args.form.now.head c.edit_row.new.cells.items c.in-Ok-places_in.places.items bytes t.form.supported (are_riff b) t.head row (c.in-Ok-places_in.ensures ∙ ap (map placed) c.deref-2.ensures.value),
      lists,
    )

pub returns-clause-follow : goal.returns-clause-follow
returns-clause-follow g c =
    let same : c.in-Ok-places_in.places.items ≡ map placed c.edit_row.new.cells.items = c.in-Ok-places_in.ensures ∙ ap (map placed) c.deref-2.ensures.value in
    let ends : c.in-Ok.loaded.end ≡ c.args.form.now.end = omega (arith, c.if-loaded-form.false) in
    subst (λ (n : ℕ). Follow 12 c.in-Ok-places_in.places.items n) ends
    (subst (λ (ps : List Place). Follow 12 ps c.in-Ok.loaded.end) (sym same) (places_follow 12 c.edit_row.new.cells.items c.in-Ok.loaded.end (c.in-Ok-edit_row.ensures.follow 12 c.in-Ok.loaded.end c.in-Ok.ensures.follow)))
