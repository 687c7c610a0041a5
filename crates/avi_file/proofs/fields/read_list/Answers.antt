use Rattle.std.proofs.Common.{◌∙◌, ℕ, List, subst}
use Rattle.std.specs.List.{flat_map}
use Rattle.info_list.specs.Info.{IsInfo}
use Rattle.info_list.specs.declared.InfoItem.{InfoItem}
use Rattle.info_list.specs.Fields.{Grows, item_value, items_held}
use Rattle.avi_file.proofs.Grown.{behind_is, list_cut, list_read, list_short, only_grows}
use Rattle.avi_file.proofs.fields.read_list.Goals as goal

pub returns-then-list-lt4-clause-list : goal.returns-then-list-lt4-clause-list
returns-then-list-lt4-clause-list g c b holds = list_short b c.args.list c.args.fields.now c.if-list-lt4.true

pub returns-in-Err-Truncated-clause-list : goal.returns-in-Err-Truncated-clause-list
returns-in-Err-Truncated-clause-list g c b holds =
    let same = behind_is b c.args.list c.as_slice.result.now c.if-list-lt4.false (c.as_slice.ensures ∙ c.in-Ok.ensures.bytes b holds) in
    list_cut b c.args.list c.as_slice.result.now c.in-Err-Truncated.at same (rw c.in-Err-Truncated.field-0-is at c.in-Err-Truncated.ensures.list)

pub returns-clause-list : goal.returns-clause-list
returns-clause-list g c b holds =
    let same = behind_is b c.args.list c.as_slice.result.now c.if-list-lt4.false (c.as_slice.ensures ∙ c.in-Ok.ensures.bytes b holds) in
    let info : IsInfo c.as_slice.result.now c.in-Ok-read_info.info = c.in-Ok-read_info.ensures.list in
    list_read b c.args.list c.as_slice.result.now c.in-Ok-read_info.info c.args.fields.now c.add_items.new.fields same info
    (subst (λ (x : List InfoItem). Grows c.args.fields.now c.add_items.new.fields (items_held x)) c.as_slice-2.ensures c.in-Ok-add_items.ensures)

pub returns-clause-only : goal.returns-clause-only
returns-clause-only g c = only_grows c.args.fields.now c.add_items.new.fields (λ (id : List ℕ). flat_map (item_value id) _) c.in-Ok-add_items.ensures
