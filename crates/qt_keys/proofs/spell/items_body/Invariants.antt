use Rattle.std.proofs.Common.{◌≡◌, ◌++◌}
use Rattle.std.specs.List.{flat_map}
use Rattle.container_model.specs.Chunk.{spell}
use Rattle.qt_keys.specs.Table.{item_atom}
use Rattle.qt_keys.proofs.Pieces.{from}
use Rattle.qt_keys.proofs.spell.items_body.Given as goal

-- what is spelled so far and the items that are left are the whole
abbrev pub invariant-loop-item : goal.invariant-loop-item
invariant-loop-item l = l.body.items ++ from (λ i. spell (item_atom i)) l.item-index l.items ≡ flat_map (λ i. spell (item_atom i)) l.items
