use Rattle.std.proofs.Common.{◌∙◌, ◌≡◌, false, sym, ap}
use Rattle.std.specs.Prelude.{Option, Some, None}
use Rattle.bext_fields.specs.Change.{raw_items_of}
use Rattle.carrier_model.specs.Cells.{never}
use Rattle.wave_model.specs.Carry.{info_part}
use Rattle.edit_planner.specs.declared.cells.Content.{Content}
use Rattle.edit_planner.specs.Cells.{content_of}
use Rattle.edit_planner.specs.Lists.{Edits}
use Rattle.edit_planner.proofs.Sizes.{model_sizes, tells_as}
use Rattle.edit_planner.proofs.InfoLists.{list_last, wave_holds}
use Rattle.edit_planner.proofs.BextChunk.{put_follows_on}
use Rattle.edit_planner.proofs.lists.edit_lists.Goals as goal

pub returns-in-Err-clause-large : goal.returns-in-Err-clause-large
returns-in-Err-clause-large c = λ xs u small e.
    tells_as (Option Content) (Unit {0}) (model_sizes never (info_part (raw_items_of c.args.changes.now)) xs) c.in-Err.fault (c.in-Err.ensures.large content_of never c.args.from xs wave_holds u small e)

pub returns-in-Ok-None-clause-told : goal.returns-in-Ok-None-clause-told
returns-in-Ok-None-clause-told c = λ xs u e.
    let h : Edits content_of never c.args.from (info_part (raw_items_of c.args.changes.now)) xs c.change_or_new.new.cells.items None =
    rw c.in-Ok-None.field-0-is at (c.in-Ok-None.ensures.edits content_of never c.args.from xs wave_holds u e)
    in
    h

pub returns-in-Ok-None-clause-large : goal.returns-in-Ok-None-clause-large
returns-in-Ok-None-clause-large c = λ xs u small e. c.in-Ok-None.ensures.large content_of never c.args.from xs wave_holds u small e

pub returns-in-Ok-None-clause-follow : goal.returns-in-Ok-None-clause-follow
returns-in-Ok-None-clause-follow c = λ end h. c.in-Ok-None.ensures.follow c.args.from end h

pub returns-in-Ok-clause-told : goal.returns-in-Ok-clause-told
returns-in-Ok-clause-told c = λ xs u e.
    let f = info_part (raw_items_of c.args.changes.now) in
    let h : Edits content_of never c.args.from f xs c.change_or_new.new.cells.items (Some c.in-Ok-Some.content) =
    rw c.in-Ok-Some.field-0-is at (c.in-Ok-Some.ensures.edits content_of never c.args.from xs wave_holds u e)
    in
    c.in-Ok.ensures ∙ list_last f c.args.from xs c.change_or_new.new.cells.items c.in-Ok-Some.content h

pub returns-in-Ok-clause-large : goal.returns-in-Ok-clause-large
returns-in-Ok-clause-large c = λ xs u small e. c.in-Ok-Some.ensures.large content_of never c.args.from xs wave_holds u small e

pub returns-in-Ok-clause-follow : goal.returns-in-Ok-clause-follow
returns-in-Ok-clause-follow c = λ end h.
    put_follows_on false c.in-Ok-Some.content c.args.from c.change_or_new.new.cells.items c.put_cell.new.cells.items end c.in-Ok.ensures
    (c.in-Ok-Some.ensures.follow c.args.from end h)
