use Rattle.std.proofs.Common.{◌∙◌, ◌≡◌, ap, subst, sym}
use Rattle.me_bytes.specs.Bytes.{IsBytes}
use Rattle.mov_model.specs.Keys.{with_keys}
use Rattle.qt_keys.proofs.Keyed.{when_ok}
use Rattle.qt_keys.specs.Set.{with_key}
use Rattle.qt_keys.specs.Table.{table_bytes}
use Rattle.qt_keys.specs.declared.table.KeyTable.{KeyTable}
use Rattle.mov_plan.specs.Keyed.{changes_of, table_with}
use Rattle.mov_plan.proofs.KeyTables.{bytes_more, one_keys, put_end, put_is, put_more, same_held}
use Rattle.mov_plan.proofs.keys.edited.Goals as goal

pub changes-init : goal.changes-init
changes-init c =
    let t = c.args.table.now in
    let k = c.in_ok-keyed.keyed in
    let same : table_with k.entries.items k.items.items t ≡ t = same_held t k.entries.items k.items.items c.requires c.in_ok-keyed.ensures.entries c.in_ok-keyed.ensures.items in
    record {
      table = ap (with_keys (changes_of c.args.changes.now)) same;
      bytes = subst (λ (u : KeyTable). IsBytes (table_bytes u)) (sym same) c.requires.bytes;
    }

pub changes-preserved : goal.changes-preserved
changes-preserved c =
    let t = c.args.table.now in
    let old = c.changes.keyed in
    let new = c.put.new.self in
    let change = c.change-item.result in
    let before = table_with old.entries.items old.items.items t in
    let after = table_with new.entries.items new.items.items t in
    let step : after ≡ with_key change.name change.value before = put_is change old.entries.items new.entries.items old.items.items new.items.items t (one_keys t c.requires) c.in_ok-put.ensures.entries c.in_ok-put.ensures.items in
    record {
      table = put_more c.args.changes.now c.changes.change-index change before after (with_keys (changes_of c.args.changes.now) t) c.changes-test.true c.change-item.is step c.changes.invariant.table;
      bytes = bytes_more change before after c.in_ok-put.ensures.bytes step c.changes.invariant.bytes;
    }

pub returns-clause-table : goal.returns-clause-table
returns-clause-table c =
    let t = c.args.table.now in
    let k = c.changes.keyed in
    when_ok c.table.result (λ u made. made ∙ put_end c.args.changes.now c.changes.change-index (table_with k.entries.items k.items.items t) (with_keys (changes_of c.args.changes.now) t) c.changes-test.false c.changes.invariant.table) c.table.ensures

pub returns-clause-bytes : goal.returns-clause-bytes
returns-clause-bytes c = when_ok c.table.result (λ u made. subst (λ (v : KeyTable). IsBytes (table_bytes v)) (sym made) c.changes.invariant.bytes) c.table.ensures
