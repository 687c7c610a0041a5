use Rattle.std.proofs.Common.{◌≡◌, ◌+◌, ◌-◌, ◌^◌, min, length, map, drop}
use Rattle.container_model.specs.Chunk.{spell_all}
use Rattle.mov_plan.specs.Users.{chunk_of}
use Rattle.mov_plan.proofs.user.body_len.Given as goal

-- the length so far and that of the atoms that are left are the whole
abbrev pub invariant-items : goal.invariant-items
invariant-items l = min (l.len + length (spell_all (map chunk_of (drop l.item-index l.items)))) (2 ^ 64 - 1) ≡ min (length (spell_all (map chunk_of l.items))) (2 ^ 64 - 1)
