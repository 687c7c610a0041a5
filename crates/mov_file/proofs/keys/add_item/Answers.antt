use Rattle.std.proofs.Common.{arith, rules, sym, ap, subst, ◌≡◌, ◌∙◌, ◌+◌, ◌-◌, ◌<◌, ℕ, List, length, map, Bool, true, false, get_or, inl, inr}
use Rattle.std.specs.Prelude.{◌&&◌}
use Rattle.part_tree.specs.Keys.{is_key_name}
use Rattle.part_tree.specs.declared.field.FieldName.TheVariants.{Key}
use Rattle.field_model.specs.Fields.{plain}
use Rattle.qt_keys.specs.Table.{is_key}
use Rattle.mov_file.specs.Fields.{Grows, under}
use Rattle.mov_file.proofs.KeyItems.{item_astray, item_field, item_other}
use Rattle.mov_file.proofs.Sound.{on_ok}
use Rattle.mov_file.proofs.keys.add_item.Goals as goal

pub returns-then-index-eq0 : goal.returns-then-index-eq0
returns-then-index-eq0 c = record { held = item_astray c.args.fields.now c.args.entries.now c.args.item.now (inl c.if-index-eq0.true) }

pub returns-then-index-entries : goal.returns-then-index-entries
returns-then-index-entries c = record { held = item_astray c.args.fields.now c.args.entries.now c.args.item.now (inr c.if-index-entries.true) }

pub returns-then-not-is_field : goal.returns-then-not-is_field
returns-then-not-is_field c =
    let es = c.args.entries.now in
    let i = c.args.item.now in
    let k = i.index - 1 in
    let e = c.index-entries-index.result in
    let number : i.index ≡ k + 1 = omega (arith, c.if-index-eq0.false) in
    let lt : k < length es = omega (arith, c.if-index-eq0.false, c.if-index-entries.false) in
    let no : (is_key e && is_key_name e.name) ≡ false = search rules in
    record { held = item_other c.args.fields.now c.args.fields.now es i k e number lt c.index-entries-index.is no }

pub returns : goal.returns
returns c =
    let es = c.args.entries.now in
    let i = c.args.item.now in
    let k = i.index - 1 in
    let e = c.index-entries-index.result in
    let old = c.args.fields.now in
    let new = c.add_values.new.fields in
    let number : i.index ≡ k + 1 = omega (arith, c.if-index-eq0.false) in
    let lt : k < length es = omega (arith, c.if-index-eq0.false, c.if-index-entries.false) in
    let yes : (is_key e && is_key_name e.name) ≡ true = search rules in
    record {
      held = on_ok c.add_values.result (λ (g : Grows old new (under (Key c.as_slice.result.now) (map plain c.as_slice-2.result.now))).
          item_field old new es i k e number lt c.index-entries-index.is yes
          (subst (λ (x : List ℕ). Grows old new (under (Key x) (map plain i.values))) c.as_slice.ensures
          (subst (λ (vs : List (List ℕ)). Grows old new (under (Key c.as_slice.result.now) (map plain vs))) c.as_slice-2.ensures g))) c.add_values.ensures;
    }
