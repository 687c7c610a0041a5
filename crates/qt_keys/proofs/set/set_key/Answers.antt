use Rattle.std.proofs.Common.{◌≡◌, ◌≤◌, ◌^◌, ◌∙◌, Some, None, ap, arith, length, map, subst, sym}
use Rattle.std.specs.Option.{option_copied}
use Rattle.qt_keys.specs.Read.{IsRead}
use Rattle.qt_keys.specs.Set.{child_set, child_without, with_key}
use Rattle.qt_keys.specs.Table.{entries_among, table_bytes}
use Rattle.qt_keys.specs.declared.table.KeyTable.{KeyTable}
use Rattle.qt_keys.proofs.Again.{entries_small}
use Rattle.qt_keys.proofs.AreBytes.{bytes_set}
use Rattle.qt_keys.proofs.Found.{read_well}
use Rattle.qt_keys.proofs.Keyed.{is_left, is_set, read_set, when_ok}
use Rattle.qt_keys.proofs.Whole.{small_table}
use Rattle.qt_keys.proofs.set.set_key.Goals as goal

pub index_of-index-requires : goal.index_of-index-requires
index_of-index-requires c =
    let t = c.args.table.now in
    let w = read_well (table_bytes t) t c.requires.read.bytes c.requires.read.read in
    let n = ap (λ cs. length (entries_among cs)) c.as_slice-children.ensures in
    omega (arith, entries_small t.children w.children, small_table (table_bytes t) t c.requires.read.read, ap length c.entries_among.ensures, n)

pub with_value-requires : goal.with_value-requires
with_value-requires c =
    let t = c.args.table.now in
    let w = read_well (table_bytes t) t c.requires.read.bytes c.requires.read.read in
    let n = ap (λ cs. length (entries_among cs)) c.as_slice-children.ensures in
    omega (arith, entries_small t.children w.children, small_table (table_bytes t) t c.requires.read.read, ap length c.entries_among.ensures, n, c.index_of-index.ensures.low)

left : (c : goal.After-without_key) → (u : KeyTable) → u.children ≡ map (child_without c.index_of-index.result) c.as_slice-children.result.now → u ≡ with_key c.args.name.now (option_copied c.args.raw) c.args.table.now
left c u made =
    is_left c.args.name.now c.args.table.now u c.index_of-index.result c.as_slice-children.result.now c.entries_among.result.now c.as_slice-children.ensures c.entries_among.ensures c.index_of-index.ensures.index made
    ∙ ap (λ r. with_key c.args.name.now (option_copied r) c.args.table.now) (sym c.in-None.is)

set : (c : goal.After-with_value) → (u : KeyTable) → u.children ≡ map (child_set c.args.name.now c.index_of-index.result c.in-Some.raw.now) c.as_slice-children.result.now → u ≡ with_key c.args.name.now (option_copied c.args.raw) c.args.table.now
set c u made =
    is_set c.args.name.now c.in-Some.raw.now c.args.table.now u c.index_of-index.result c.as_slice-children.result.now c.entries_among.result.now c.as_slice-children.ensures c.entries_among.ensures c.index_of-index.ensures.index made
    ∙ ap (λ r. with_key c.args.name.now (option_copied r) c.args.table.now) (sym c.in-Some.is)

pub returns-in-None-clause-set : goal.returns-in-None-clause-set
returns-in-None-clause-set c = when_ok c.without_key.result (left c) c.without_key.ensures

pub returns-in-None-clause-read : goal.returns-in-None-clause-read
returns-in-None-clause-read c =
    let t = c.args.table.now in
    let name = c.args.name.now in
    let same : option_copied c.args.raw ≡ None = ap (λ r. option_copied r) c.in-None.is in
    let small = subst (λ r. length (table_bytes (with_key name r t)) ≤ 2 ^ 24) same c.requires.small in
    let good : IsRead (with_key name None t) = read_set name None t tt c.requires.read (bytes_set name None t (λ i. (c.type_inv.name i).fits) tt c.requires.read.bytes) small in
    when_ok c.without_key.result (λ u made. subst IsRead (ap (λ r. with_key name r t) (sym same) ∙ sym (left c u made)) good) c.without_key.ensures

pub returns-in-Some-clause-set : goal.returns-in-Some-clause-set
returns-in-Some-clause-set c = when_ok c.with_value.result (set c) c.with_value.ensures.set

pub returns-in-Some-clause-read : goal.returns-in-Some-clause-read
returns-in-Some-clause-read c =
    let t = c.args.table.now in
    let name = c.args.name.now in
    let raw = c.in-Some.raw.now in
    let same : option_copied c.args.raw ≡ Some raw = ap (λ r. option_copied r) c.in-Some.is in
    let small = subst (λ r. length (table_bytes (with_key name r t)) ≤ 2 ^ 24) same c.requires.small in
    let long : 8 ≤ length raw = c.requires.value c.in-Some.raw c.in-Some.is in
    let good : IsRead (with_key name (Some raw) t) = read_set name (Some raw) t long c.requires.read (bytes_set name (Some raw) t (λ i. (c.type_inv.name i).fits) c.with_value.ensures.bytes c.requires.read.bytes) small in
    when_ok c.with_value.result (λ u made. subst IsRead (ap (λ r. with_key name r t) (sym same) ∙ sym (set c u made)) good) c.with_value.ensures.set
