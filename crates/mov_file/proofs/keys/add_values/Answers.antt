use Rattle.std.proofs.Common.{arith, rules, sym, ap, subst, ◌≡◌, ◌∙◌, ◌<◌, ◌≤◌, ℕ, List, length, map}
use Rattle.part_tree.specs.Fields.{Adds}
use Rattle.part_tree.specs.declared.field.FieldName.TheVariants.{Key}
use Rattle.part_tree.specs.declared.field.Value.{Value}
use Rattle.field_model.specs.Fields.{plain}
use Rattle.mov_file.proofs.Grown.{plain_end, plain_next}
use Rattle.mov_file.proofs.KeyItems.{some_key}
use Rattle.mov_file.proofs.keys.add_values.Goals as goal

pub values-preserved : goal.values-preserved
values-preserved c =
    let k = c.values.value-index in
    let vs = c.args.values.now in
    let name = c.args.name.now in
    let old = c.values.fields in
    let new = c.add.new.self in
    let lt : k < length vs = search rules in
    let key : c.in-Some.key ≡ name = some_key name c.in-Some.key c.requires c.in-Some.ensures in
    let raw : c.in_ok-raw.raw ≡ c.value-item.result = c.in_ok-raw.ensures ∙ c.as_slice.ensures in
    let adds : Adds old new (Key name) (plain c.value-item.result) =
    subst (λ (x : List ℕ). Adds old new (Key x) (plain c.value-item.result)) key (subst (λ (x : List ℕ). Adds old new (Key c.in-Some.key) (plain x)) raw c.in_ok-add.ensures.ok)
    in
    plain_next c.args.fields.now old new (Key name) vs (map plain vs) k c.value-item.result lt c.value-item.is adds c.values.invariant

pub returns : goal.returns
returns c =
    let k = c.values.value-index in
    let vs = c.args.values.now in
    let le : length vs ≤ k = search rules in
    plain_end c.args.fields.now c.values.fields (Key c.args.name.now) vs (map plain vs) k le c.values.invariant
