use Rattle.std.proofs.Common.{◌≡◌, ◌≤◌, ◌+◌, length, min}
use Rattle.qt_keys.proofs.Pieces.{from}
use Rattle.qt_keys.specs.Table.{child_bytes, table_bytes}
use Rattle.mov_plan.proofs.KeySizes.{most}
use Rattle.mov_plan.proofs.key_len.table_len.Given as goal

-- the length so far and that of what is left are the whole
abbrev pub invariant-children : goal.invariant-children
invariant-children l = record {
  small : l.len ≤ most;
  whole : min (l.len + length (from child_bytes l.child-index l.child-items)) most ≡ min (length (table_bytes l.table)) most;
}
