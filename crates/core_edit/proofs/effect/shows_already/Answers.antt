use Rattle.std.proofs.Common.{◌≡◌, ◌<◌, ◌∙◌, sym, ap, arith, subst, List, ℕ, length}
use Rattle.part_tree.specs.declared.field.Value.{Value}
use Rattle.part_tree.specs.Fields.{values}
use Rattle.core_edit.specs.Forms.{HasNumber}
use Rattle.core_edit.proofs.Effects.{held_number, already_one}
use Rattle.core_edit.proofs.effect.shows_already.Goals as goal

pub value_shows-requires : goal.value_shows-requires
value_shows-requires c =
    let some : 0 < length c.get.result.now = omega arith in
    subst (λ (xs : List ℕ). HasNumber c.args.name.now xs) (sym (c.as_slice.ensures ∙ ap (λ (v : Value). v.raw) c.value-item.is))
    (held_number (values c.args.fields.now) c.args.name.now c.get.result.now c.value-item.result c.requires c.get.ensures some)

pub returns-in-len1 : goal.returns-in-len1
returns-in-len1 c =
    let one : length c.get.result.now ≡ 1 = omega arith in
    already_one (values c.args.fields.now) c.args.name.now c.get.result.now c.value-item.result c.version.result c.as_slice.result.now c.args.text.now c.value_shows.result
    c.get.ensures one c.version.ensures (c.as_slice.ensures ∙ ap (λ (v : Value). v.raw) c.value-item.is) c.value_shows.ensures
