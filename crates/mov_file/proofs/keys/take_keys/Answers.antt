use Rattle.std.proofs.Common.{arith, rules, sym, ap, subst, ◌≡◌, ◌∙◌, ◌+◌, ◌<◌, ◌≤◌, ℕ, List, length, get_or}
use Rattle.qt_keys.specs.Table.{entries_among, entries_of, items_among, items_of}
use Rattle.qt_keys.specs.declared.table.KeyEntry.{KeyEntry}
use Rattle.qt_keys.specs.declared.table.KeyItem.{KeyItem}
use Rattle.mov_file.proofs.KeyItems.{keys_lawful, take_end, take_next}
use Rattle.mov_file.proofs.keys.take_keys.Goals as goal

pub items-preserved : goal.items-preserved
items-preserved c =
    let is = items_of c.args.table.now in
    let k = c.items.item-index in
    let i = c.item-item.result in
    let same : c.items_in-item-items.result.now ≡ is = c.items_in-item-items.ensures ∙ ap items_among c.as_slice-2.ensures in
    let lt : k < length is = rw same at c.items-test.true in
    let here : i ≡ get_or is k i = subst (λ (js : List KeyItem). i ≡ get_or js k i) same c.item-item.is in
    take_next c.args.fields.now c.items.fields c.add_item.new.fields c.entries_in-entries.result.now is k i lt here c.in_ok-add_item.ensures.held c.items.invariant

pub returns-clause-held : goal.returns-clause-held
returns-clause-held c =
    let is = items_of c.args.table.now in
    let k = c.items.item-index in
    let same : c.items_in-item-items.result.now ≡ is = c.items_in-item-items.ensures ∙ ap items_among c.as_slice-2.ensures in
    let entries : c.entries_in-entries.result.now ≡ entries_of c.args.table.now = c.entries_in-entries.ensures ∙ ap entries_among c.as_slice.ensures in
    let le : length is ≤ k = omega (arith, ap (λ (js : List KeyItem). length js) same, c.items-test.false) in
    take_end c.args.fields.now c.items.fields c.args.table.now c.entries_in-entries.result.now k entries c.requires le c.items.invariant

pub returns-clause-lawful : goal.returns-clause-lawful
returns-clause-lawful c =
    let is = items_of c.args.table.now in
    let k = c.items.item-index in
    let same : c.items_in-item-items.result.now ≡ is = c.items_in-item-items.ensures ∙ ap items_among c.as_slice-2.ensures in
    let entries : c.entries_in-entries.result.now ≡ entries_of c.args.table.now = c.entries_in-entries.ensures ∙ ap entries_among c.as_slice.ensures in
    let le : length is ≤ k = omega (arith, ap (λ (js : List KeyItem). length js) same, c.items-test.false) in
    keys_lawful c.args.fields.now c.items.fields c.args.table.now c.requires (take_end c.args.fields.now c.items.fields c.args.table.now c.entries_in-entries.result.now k entries c.requires le c.items.invariant)
