use Rattle.std.proofs.Common.{◌<◌, ◌∙◌, sym, ap, arith, subst, List, ℕ, length}
use Rattle.part_tree.specs.declared.field.Value.{Value}
use Rattle.part_tree.specs.Fields.{values}
use Rattle.field_model.specs.Body.{FillsRange}
use Rattle.core_edit.proofs.Effects.{held_fills, none_two}
use Rattle.core_edit.proofs.effect.removes_bext.Goals as goal

pub is_nothing-requires : goal.is_nothing-requires
is_nothing-requires c =
    let some : 0 < length c.get.result.now = omega arith in
    subst (λ (xs : List ℕ). FillsRange c.args.field xs) (sym (c.as_slice.ensures ∙ ap (λ (v : Value). v.raw) c.value-item.is))
    (held_fills (values c.args.fields.now) c.args.field c.get.result.now c.value-item.result c.requires.bext c.get.ensures some)

pub returns-in_default-2 : goal.returns-in_default-2
returns-in_default-2 c = absurd (none_two (values c.args.fields.now) c.args.field c.get.result.now c.requires.bext c.get.ensures c.in_default.len_at_least)
