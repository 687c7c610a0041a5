use Rattle.std.proofs.Common.{◌∙◌, ◌≡◌, ap, sym, refl, subst, List, ℕ, map, drop}
use Rattle.std.specs.Prelude.{Some, None, ◌^◌}
use Rattle.std.specs.List.{flat_map}
use Rattle.container_model.specs.Units.{live}
use Rattle.wave_model.specs.Fields.{bodies, is_info}
use Rattle.wave_model.specs.Carry.{steps}
use Rattle.carrier_model.specs.Steps.{carried}
use Rattle.edit_planner.specs.Lists.{lengths}
use Rattle.part_tree.specs.declared.part.Part.{Part}
use Rattle.part_tree.specs.Large.{first_above, limited}
use Rattle.unit_plan.specs.declared.place.Place.{Place}
use Rattle.unit_plan.specs.Places.{Follow}
use Rattle.bext_fields.specs.Change.{raw_items_of}
use Rattle.wave_model.specs.Wave.{wave_of, cells_of}
use Rattle.wave_model.proofs.Why.{why_supported}
use Rattle.edit_planner.specs.Stand.{placed}
use Rattle.edit_planner.specs.Places.{begins_at, first_child, list_sizes}
use Rattle.edit_planner.proofs.ListSizes.{sizes_laid, small_cells}
use Rattle.edit_planner.proofs.Shaped.{row_told, before_told, cells_unedited, places_follow, tail_of}
use Rattle.edit_planner.proofs.wave.places_of.Goals as goal

pub returns-clause-row : goal.returns-clause-row
returns-clause-row g c = λ b bytes holds.
    let m = c.requires.mapped b holds in
    let sup = why_supported b m.supported in
    let w = wave_of b in
    let e = raw_items_of c.args.changes.now in
    let begin = c.begin_of-from.ensures ∙ ap begins_at c.as_slice-parts.ensures.value in
    let slice =
    tail_of c.first_of-first.result c.as_slice-parts.result.now ∙ ap (λ (k : ℕ). drop k c.as_slice-parts.result.now) c.first_of-first.ensures.first
    ∙ ap (λ (ps : List Part). drop (first_child ps) ps) c.as_slice-parts.ensures.value
    in
    let before = before_told b c.in-Ok.loaded.cells.items c.args.map.now.parts.items _ c.begin_of-from.result bytes sup m.parts begin slice (c.in-Ok.ensures.cells b holds) in
    let lists : first_above (list_sizes b e) ≡ None =
    ap first_above (sym (sizes_laid b e)) ∙ c.in-Ok-edit_cells.ensures.large (cells_of w) (cells_unedited w.ds64 w.children) (small_cells b sup) before
    in
    row_told b e _ c.in-Ok.loaded.cells.items c.edit_cells.new.cells.items c.args.map.now.parts.items _ c.begin_of-from.result bytes sup m.parts begin slice refl (c.in-Ok.ensures.cells b holds)
    c.in-Ok-edit_cells.ensures.told (c.in-Ok-places_in.ensures ∙ ap (map placed) c.deref.ensures.value) lists

pub returns-clause-follow : goal.returns-clause-follow
returns-clause-follow g c =
    let same : c.in-Ok-places_in.places.items ≡ map placed c.edit_cells.new.cells.items = c.in-Ok-places_in.ensures ∙ ap (map placed) c.deref.ensures.value in
    subst (λ (ps : List Place). Follow c.begin_of-from.result ps c.in-Ok.loaded.end) (sym same)
    (places_follow c.begin_of-from.result c.edit_cells.new.cells.items c.in-Ok.loaded.end (c.in-Ok-edit_cells.ensures.follow c.in-Ok.loaded.end c.in-Ok.ensures.follow))

pub returns-in-Err-TooLarge-clause-row : goal.returns-in-Err-TooLarge-clause-row
returns-in-Err-TooLarge-clause-row g c = λ b bytes holds.
    let m = c.requires.mapped b holds in
    let sup = why_supported b m.supported in
    let w = wave_of b in
    let e = raw_items_of c.args.changes.now in
    let begin = c.begin_of-from.ensures ∙ ap begins_at c.as_slice-parts.ensures.value in
    let slice =
    tail_of c.first_of-first.result c.as_slice-parts.result.now ∙ ap (λ (k : ℕ). drop k c.as_slice-parts.result.now) c.first_of-first.ensures.first
    ∙ ap (λ (ps : List Part). drop (first_child ps) ps) c.as_slice-parts.ensures.value
    in
    let before = before_told b c.in-Ok.loaded.cells.items c.args.map.now.parts.items _ c.begin_of-from.result bytes sup m.parts begin slice (c.in-Ok.ensures.cells b holds) in
    let large : first_above (lengths (bodies is_info (flat_map live (carried (steps e) (cells_of w))))) ≡ Some (limited (2 ^ 24) c.in-Err-TooLarge.size) =
    rw c.in-Err-TooLarge.field-0-is at (c.in-Err-TooLarge.ensures.large (cells_of w) (cells_unedited w.ds64 w.children) (small_cells b sup) before)
    in
    ap first_above (sym (sizes_laid b e)) ∙ large ∙ ap (λ (n : ℕ). Some (limited (2 ^ 24) n)) (sym c.in-Err-TooLarge.size-is)
