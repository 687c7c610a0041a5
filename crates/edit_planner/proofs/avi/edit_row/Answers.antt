use Rattle.std.proofs.Common.{◌≡◌, ◌∙◌, ◌<◌, length, subst, arith, ap, sym, List, ℕ}
use Rattle.std.specs.Prelude.{Option, None, Some}
use Rattle.std.specs.declared.result.Result.TheVariants.{Err}
use Rattle.std.specs.List.{flat_map}
use Rattle.bext_fields.specs.Change.{raw_items_of}
use Rattle.container_model.specs.Units.{live}
use Rattle.carrier_model.specs.Info.{info, info_items}
use Rattle.carrier_model.specs.Lists.{edit_lists}
use Rattle.avi_model.specs.Edited.{info_edit}
use Rattle.avi_model.specs.NewFile.{Items, home}
use Rattle.wave_model.specs.Fields.{bodies, is_info}
use Rattle.edit_planner.specs.declared.cells.CellAt.{CellAt}
use Rattle.edit_planner.specs.declared.cells.Content.{Content}
use Rattle.edit_planner.specs.Avi.{avi_cells, avi_held, lists_after}
use Rattle.edit_planner.specs.Cells.{Follow}
use Rattle.edit_planner.specs.Lists.{Edits, TellsLarge, lengths}
use Rattle.part_tree.specs.Large.{first_above}
use Rattle.edit_planner.proofs.AviRow.{avi_holds, avi_unmet, pad_follows, pad_long, put_after_follows}
use Rattle.edit_planner.proofs.AviPlaced.{infos_same, row_kept, row_put}
use Rattle.edit_planner.proofs.Sizes.{tells_as}
use Rattle.edit_planner.proofs.avi.edit_row.Goals as goal

pub returns-in-Err-clause-large : goal.returns-in-Err-clause-large
returns-in-Err-clause-large c = λ cs small e.
    let rs = raw_items_of c.args.changes.now in
    let xs = avi_cells cs in
    let told = c.in-Err.ensures.large avi_held home 12 xs avi_holds (avi_unmet is_info cs) small e in
    tells_as (Option Content) (Unit {0}) (lengths (bodies is_info (lists_after (info_edit rs) cs))) c.in-Err.fault
    (subst (λ (f : Items). TellsLarge {T = Option Content} (lengths (bodies is_info (edit_lists info info_items home f (flat_map live xs)))) (Err c.in-Err.fault)) (infos_same rs) told)

pub returns-in-None-clause-told : goal.returns-in-None-clause-told
returns-in-None-clause-told c = λ cs.
    let rs = raw_items_of c.args.changes.now in
    let xs = avi_cells cs in
    let row = c.change_or_new.new.cells.items in
    row_kept cs c.args.head c.args.lacks_pad (info_edit rs) c.args.cells.now.items row c.set_pad.new.cells.items
    (λ h e.
    subst (λ (o : Option Content). Edits avi_held home 12 (info_edit rs) xs row o) c.in-None.is
    (subst (λ (f : Items). Edits avi_held home 12 f xs row c.in-Ok.new) (infos_same rs) (c.in-Ok.ensures.edits avi_held home 12 xs avi_holds (avi_unmet is_info cs) e)))
    c.set_pad.ensures

pub returns-in-None-clause-large : goal.returns-in-None-clause-large
returns-in-None-clause-large c = λ cs small e.
    let rs = raw_items_of c.args.changes.now in
    let xs = avi_cells cs in
    subst (λ (f : Items). first_above (lengths (bodies is_info (edit_lists info info_items home f (flat_map live xs)))) ≡ None) (infos_same rs) (c.in-Ok.ensures.large avi_held home 12 xs avi_holds (avi_unmet is_info cs) small e)

pub returns-in-None-clause-follow : goal.returns-in-None-clause-follow
returns-in-None-clause-follow c = λ from end h.
    let row = c.change_or_new.new.cells.items in
    subst (λ (ys : List CellAt). Follow from ys end) (sym c.set_pad.ensures) (pad_follows c.args.lacks_pad c.args.head from row end (c.in-Ok.ensures.follow from end h))

pub put_behind-requires : goal.put_behind-requires
put_behind-requires c =
    let long : length c.set_pad.new.cells.items ≡ length c.change_or_new.new.cells.items = ap length c.set_pad.ensures ∙ pad_long c.args.lacks_pad c.args.head c.change_or_new.new.cells.items in
    omega (arith, long, c.in-Ok.ensures.count, c.requires.head)

pub returns-in-Ok-put_behind-clause-told : goal.returns-in-Ok-put_behind-clause-told
returns-in-Ok-put_behind-clause-told c = λ cs.
    let rs = raw_items_of c.args.changes.now in
    let xs = avi_cells cs in
    let row = c.change_or_new.new.cells.items in
    row_put cs c.args.head c.args.lacks_pad (info_edit rs) c.args.cells.now.items row c.set_pad.new.cells.items c.put_behind.new.cells.items c.in-Some.content
    (λ h e.
    subst (λ (o : Option Content). Edits avi_held home 12 (info_edit rs) xs row o) c.in-Some.is
    (subst (λ (f : Items). Edits avi_held home 12 f xs row c.in-Ok.new) (infos_same rs) (c.in-Ok.ensures.edits avi_held home 12 xs avi_holds (avi_unmet is_info cs) e)))
    c.set_pad.ensures c.in-Ok-put_behind.ensures

pub returns-in-Ok-put_behind-clause-large : goal.returns-in-Ok-put_behind-clause-large
returns-in-Ok-put_behind-clause-large c = λ cs small e.
    let rs = raw_items_of c.args.changes.now in
    let xs = avi_cells cs in
    subst (λ (f : Items). first_above (lengths (bodies is_info (edit_lists info info_items home f (flat_map live xs)))) ≡ None) (infos_same rs) (c.in-Ok.ensures.large avi_held home 12 xs avi_holds (avi_unmet is_info cs) small e)

pub returns-in-Ok-put_behind-clause-follow : goal.returns-in-Ok-put_behind-clause-follow
returns-in-Ok-put_behind-clause-follow c = λ from end h.
    let row = c.change_or_new.new.cells.items in
    let padded = subst (λ (ys : List CellAt). Follow from ys end) (sym c.set_pad.ensures) (pad_follows c.args.lacks_pad c.args.head from row end (c.in-Ok.ensures.follow from end h)) in
    subst (λ (ys : List CellAt). Follow from ys end) (sym c.in-Ok-put_behind.ensures) (put_after_follows c.in-Some.content c.args.head from c.set_pad.new.cells.items end padded)
