use Rattle.std.proofs.Common.{◌≡◌, ◌++◌, drop, map}
use Rattle.edit_planner.specs.TablesAt.{told_chunk}
use Rattle.edit_planner.proofs.tables.tables_in.Given as goal

-- the tables so far, and the chunks that are left
abbrev pub invariant-chunks : goal.invariant-chunks
invariant-chunks l = l.tables.items ++ map told_chunk (drop l.chunk-index l.chunks) ≡ map told_chunk l.chunks
