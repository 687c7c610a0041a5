use Rattle.std.proofs.Common.{◌≡◌, ◌≤◌, ◌+◌, length, min}
use Rattle.std.specs.List.{flat_map}
use Rattle.container_model.specs.Chunk.{spell}
use Rattle.qt_keys.proofs.Pieces.{from}
use Rattle.qt_keys.specs.Table.{item_atom}
use Rattle.mov_plan.proofs.KeySizes.{most}
use Rattle.mov_plan.proofs.key_len.items_len.Given as goal

-- the length so far and that of what is left are the whole
abbrev pub invariant-items : goal.invariant-items
invariant-items l = record {
  small : l.len ≤ most;
  whole : min (l.len + length (from (λ x. spell (item_atom x)) l.item-index l.items)) most ≡ min (length (flat_map (λ x. spell (item_atom x)) l.items)) most;
}
