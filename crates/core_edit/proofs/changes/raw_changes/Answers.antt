use Rattle.std.proofs.Common.{◌∙◌, ap, refl}
use Rattle.std.specs.List.{filter_map}
use Rattle.std.proofs.lemmas.List.Elements.{filter_map-append}
use Rattle.field_model.specs.Update.{raw_item}
use Rattle.core_edit.proofs.RawItems.{next_put, all_put, are_of_fields, fit_bext, fit_keys}
use Rattle.core_edit.proofs.changes.raw_changes.Goals as goal

pub loop-item-preserved : goal.loop-item-preserved
loop-item-preserved c =
    next_put (filter_map raw_item) (filter_map-append raw_item) c.items-items.result.now c.loop-item.item-index c.item-item.result _ _ _ c.loop-item-test.true c.item-item.is c.in_ok-put_change.ensures
    c.loop-item.invariant

pub returns-clause-names : goal.returns-clause-names
returns-clause-names c =
    are_of_fields _ c.args.edit.now c.items-items.ensures.sound
    (all_put (filter_map raw_item) refl c.items-items.result.now c.loop-item.item-index _ _ c.loop-item-test.false c.loop-item.invariant ∙ ap (filter_map raw_item) c.items-items.ensures.items)

pub returns-clause-fit : goal.returns-clause-fit
returns-clause-fit c =
    fit_bext _ c.args.edit.now c.items-items.ensures.sound
    (all_put (filter_map raw_item) refl c.items-items.result.now c.loop-item.item-index _ _ c.loop-item-test.false c.loop-item.invariant ∙ ap (filter_map raw_item) c.items-items.ensures.items)

pub returns-clause-keys : goal.returns-clause-keys
returns-clause-keys c =
    fit_keys _ c.args.edit.now c.items-items.ensures.sound
    (all_put (filter_map raw_item) refl c.items-items.result.now c.loop-item.item-index _ _ c.loop-item-test.false c.loop-item.invariant ∙ ap (filter_map raw_item) c.items-items.ensures.items)
