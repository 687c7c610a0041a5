use Rattle.std.proofs.Common.{◌≡◌, ◌++◌, map, drop}
use Rattle.container_model.specs.Chunk.{spell_all}
use Rattle.mov_plan.specs.Users.{chunk_of}
use Rattle.mov_plan.proofs.user.spell_items.Given as goal

-- what is spelled so far and the atoms that are left are the whole
abbrev pub invariant-items : goal.invariant-items
invariant-items l = l.out.items ++ spell_all (map chunk_of (drop l.item-index l.items)) ≡ spell_all (map chunk_of l.items)
