use Rattle.bext_fields.specs.Change.{raw_items_of}
use Rattle.wave_file.proofs.Roles.{ok_map}
use Rattle.edit_planner.proofs.Unmet.{wholes_done}
use Rattle.edit_planner.proofs.wholes.edit_wholes.Goals as goal

pub returns-clause-told : goal.returns-clause-told
returns-clause-told c =
    ok_map c.edit_whole-4.result
    (λ last. λ xs none e.
    wholes_done (raw_items_of c.args.changes.now) c.args.from xs c.args.cells.now.items c.edit_whole.new.cells.items c.edit_whole-2.new.cells.items c.edit_whole-3.new.cells.items c.edit_whole-4.new.cells.items
    c.in_ok-edit_whole.ensures.told c.in_ok-edit_whole-2.ensures.told c.in_ok-edit_whole-3.ensures.told last none e)
    c.edit_whole-4.ensures.told

pub returns-clause-follow : goal.returns-clause-follow
returns-clause-follow c =
    ok_map c.edit_whole-4.result (λ last. λ end h. last end (c.in_ok-edit_whole-3.ensures.follow end (c.in_ok-edit_whole-2.ensures.follow end (c.in_ok-edit_whole.ensures.follow end h)))) c.edit_whole-4.ensures.follow
