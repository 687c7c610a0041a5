use Rattle.std.proofs.Common.{◌≡◌, drop}
use Rattle.me_bytes.specs.Bytes.{IsBytes}
use Rattle.mov_model.specs.Keys.{with_keys}
use Rattle.qt_keys.specs.Table.{table_bytes}
use Rattle.mov_plan.specs.Keyed.{changes_of, table_with}
use Rattle.mov_plan.proofs.keys.edited.Given as goal

-- what the changes that are left make of the table is the whole
abbrev pub invariant-changes : goal.invariant-changes
invariant-changes l = record {
  table : with_keys (changes_of (drop l.change-index l.changes)) (table_with l.keyed.entries.items l.keyed.items.items l.table) ≡ with_keys (changes_of l.changes) l.table;
  bytes : IsBytes (table_bytes (table_with l.keyed.entries.items l.keyed.items.items l.table));
}
