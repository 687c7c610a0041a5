use Rattle.std.proofs.Common.{◌∙◌, refl, ap, sym, List, ℕ}
use Rattle.std.specs.List.{flat_map}
use Rattle.container_model.specs.Units.{Cell, live}
use Rattle.carrier_model.specs.Cells.{acted_cells}
use Rattle.part_tree.specs.Large.{first_above}
use Rattle.bext_fields.specs.Change.{raw_items_of}
use Rattle.wave_model.specs.Carry.{bext_act}
use Rattle.edit_planner.specs.Lists.{lengths}
use Rattle.edit_planner.proofs.ListSizes.{lists_last, small_bext, tells_on}
use Rattle.edit_planner.proofs.Unmet.{all_done, lists_met}
use Rattle.edit_planner.proofs.edit.edit_cells.Goals as goal

pub returns-in-Ok-edit_wholes-clause-told : goal.returns-in-Ok-edit_wholes-clause-told
returns-in-Ok-edit_wholes-clause-told c = λ xs u e.
    all_done (raw_items_of c.args.changes.now) c.args.from xs c.args.cells.now.items c.edit_bext.new.cells.items c.edit_lists.new.cells.items c.edit_wholes.new.cells.items u e c.in-Ok.ensures.told c.in-Ok-edit_lists.ensures.told c.in-Ok-edit_wholes.ensures.told

pub returns-in-Err-edit_lists-clause-large : goal.returns-in-Err-edit_lists-clause-large
returns-in-Err-edit_lists-clause-large c = λ xs u small e.
    let f = raw_items_of c.args.changes.now in
    let x1 : List Cell = acted_cells (bext_act f (flat_map live xs)) xs in
    tells_on (Unit {0}) (Unit {0}) _ _ c.in-Err-edit_lists.fault (lists_last f xs x1 refl) (c.in-Err-edit_lists.ensures.large x1 (lists_met f xs u) (small_bext f xs x1 refl small) (c.in-Ok.ensures.told xs u e))

pub returns-in-Ok-edit_wholes-clause-large : goal.returns-in-Ok-edit_wholes-clause-large
returns-in-Ok-edit_wholes-clause-large c = λ xs u small e.
    let f = raw_items_of c.args.changes.now in
    let x1 : List Cell = acted_cells (bext_act f (flat_map live xs)) xs in
    ap (λ (bs : List (List ℕ)). first_above (lengths bs)) (sym (lists_last f xs x1 refl)) ∙ c.in-Ok-edit_lists.ensures.large x1 (lists_met f xs u) (small_bext f xs x1 refl small) (c.in-Ok.ensures.told xs u e)
