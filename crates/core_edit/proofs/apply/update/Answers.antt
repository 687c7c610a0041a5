use Rattle.std.proofs.Common.{◌≡◌, ◌∙◌, ap, subst}
use Rattle.std.specs.List.{filter_map}
use Rattle.part_tree.specs.Fields.{values}
use Rattle.field_model.specs.Body.{FitBext}
use Rattle.field_model.specs.Lawful.{FitKeys}
use Rattle.field_model.specs.Update.{raw_item, raw_items}
use Rattle.bext_fields.specs.Change.{raw_items_of}
use Rattle.core_edit.proofs.Updated.{all_put, lawful_after}
use Rattle.core_edit.proofs.apply.update.Goals as goal

pub returns-clause-values : goal.returns-clause-values
returns-clause-values c =
    let f = values c.args.fields.now in
    let same : raw_items_of c.in_ok-changes.changes.items ≡ raw_items f c.args.edit.now = c.in_ok-changes.ensures.items ∙ ap (filter_map raw_item) c.in_ok-kept.ensures in
    all_put f (values c.in_ok-new.new) (values c.put_changes.new.new) (raw_items_of c.deref.result.now) (raw_items_of c.deref-2.result.now) (raw_items f c.args.edit.now)
    (ap raw_items_of c.deref.ensures.value ∙ same) (ap raw_items_of c.deref-2.ensures.value ∙ same) c.in_ok-new.ensures c.in_ok-put_changes.ensures

pub returns-clause-lawful : goal.returns-clause-lawful
returns-clause-lawful c =
    let f = values c.args.fields.now in
    let same : raw_items_of c.in_ok-changes.changes.items ≡ raw_items f c.args.edit.now = c.in_ok-changes.ensures.items ∙ ap (filter_map raw_item) c.in_ok-kept.ensures in
    lawful_after f (values c.put_changes.new.new) (raw_items f c.args.edit.now) c.requires (subst FitBext same c.in_ok-changes.ensures.fit) (subst FitKeys same c.in_ok-changes.ensures.keys)
    (all_put f (values c.in_ok-new.new) (values c.put_changes.new.new) (raw_items_of c.deref.result.now) (raw_items_of c.deref-2.result.now) (raw_items f c.args.edit.now)
    (ap raw_items_of c.deref.ensures.value ∙ same) (ap raw_items_of c.deref-2.ensures.value ∙ same) c.in_ok-new.ensures c.in_ok-put_changes.ensures)
