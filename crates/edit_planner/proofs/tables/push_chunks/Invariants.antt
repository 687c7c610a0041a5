use Rattle.std.proofs.Common.{◌≡◌, ◌++◌, drop}
use Rattle.edit_planner.specs.TablesAt.{chunks_of}
use Rattle.edit_planner.proofs.tables.push_chunks.Given as goal

-- the chunks so far, and the bodies that are left
abbrev pub invariant-bodies : goal.invariant-bodies
invariant-bodies l = l.chunks.items ++ chunks_of l.standard (drop l.body-index l.bodies) ≡ l.fn.chunks.items ++ chunks_of l.standard l.bodies
