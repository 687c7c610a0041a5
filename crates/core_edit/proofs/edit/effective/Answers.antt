use Rattle.std.proofs.Common.{sym, ◌∙◌, ap, refl, subst, filter}
use Rattle.std.proofs.lemmas.List.Elements.{filter-append}
use Rattle.part_tree.specs.Fields.{values}
use Rattle.field_model.specs.Update.{has_effect}
use Rattle.core_edit.specs.Edits.{AreSound}
use Rattle.core_edit.proofs.RawItems.{next_put, all_put}
use Rattle.core_edit.proofs.Sound.{kept_sound}
use Rattle.core_edit.proofs.edit.effective.Goals as goal

pub loop-item-preserved : goal.loop-item-preserved
loop-item-preserved c =
    let p = has_effect (values c.args.fields.now) in
    next_put (filter p) (filter-append p) c.items-items.result.now c.loop-item.item-index c.item-item.result _ _ _ c.loop-item-test.true c.item-item.is c.in_ok-keep.ensures c.loop-item.invariant

pub of-requires : goal.of-requires
of-requires c =
    let p = has_effect (values c.args.fields.now) in
    let is = all_put (filter p) refl c.items-items.result.now c.loop-item.item-index _ _ c.loop-item-test.false c.loop-item.invariant ∙ ap (filter p) c.items-items.ensures.items in
    subst AreSound (sym is) (kept_sound p c.args.edit.now c.items-items.ensures.sound)
