use Rattle.std.proofs.Common.{◌≡◌, ◌+◌, drop}
use Rattle.edit_planner.specs.TablesAt.{number_behind}
use Rattle.edit_planner.proofs.tables.place_for.Given as goal

-- those so far begin before the byte
abbrev pub invariant-tables : goal.invariant-tables
invariant-tables l = record {
  count : l.k ≡ l.table-index;
  left : l.k + number_behind l.end (drop l.table-index l.tables) ≡ number_behind l.end l.tables;
}
