use Rattle.std.proofs.Common.{◌≡◌, ◌≤◌, ◌+◌, length, min}
use Rattle.std.specs.List.{flat_map}
use Rattle.container_model.specs.Chunk.{spell}
use Rattle.qt_keys.proofs.Pieces.{from}
use Rattle.qt_keys.specs.Table.{value_atom}
use Rattle.mov_plan.proofs.KeySizes.{most}
use Rattle.mov_plan.proofs.key_len.values_len.Given as goal

-- the length so far and that of what is left are the whole
abbrev pub invariant-values : goal.invariant-values
invariant-values l = record {
  small : l.len ≤ most;
  whole : min (l.len + length (from (λ x. spell (value_atom x)) l.value-index l.values)) most ≡ min (length (flat_map (λ x. spell (value_atom x)) l.values)) most;
}
