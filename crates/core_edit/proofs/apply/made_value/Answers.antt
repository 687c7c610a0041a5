use Rattle.std.proofs.Common.{◌≡◌, ◌∷◌, [], ◌∙◌, sym, ap, subst, replicate, IfOk, List, ℕ}
use Rattle.part_tree.specs.declared.field.Value.{Value}
use Rattle.part_tree.specs.Fields.{values}
use Rattle.field_model.specs.Fields.{plain}
use Rattle.core_edit.proofs.Updated.{made_held, made_none, one_copied}
use Rattle.core_edit.proofs.apply.made_value.Goals as goal

pub returns-in_ok-raw-in-empty : goal.returns-in_ok-raw-in-empty
returns-in_ok-raw-in-empty c =
    made_none (values c.args.fields.now) c.args.field c.get.result.now c.requires.bext c.get.ensures c.in-empty.len_below
    ∙ ap (λ (raw : List ℕ). plain raw ∷ []) (ap (λ (n : ℕ). replicate n 0) (sym c.width.ensures) ∙ sym c.in_ok-raw-in-empty.ensures)

pub returns-in-len1-up : goal.returns-in-len1-up
returns-in-len1-up c =
    let held = made_held (values c.args.fields.now) c.args.field c.get.result.now c.value-item.result c.requires.bext c.get.ensures c.in-len1-up.len_at_least in
    let is = held ∙ ap (λ (v : Value). v ∷ []) (sym c.value-item.is) in
    subst (λ (vs : List Value). IfOk c.copy.result (λ value. vs ≡ value ∷ [])) (sym is) (one_copied c.copy.result c.value-item.result c.copy.ensures)
