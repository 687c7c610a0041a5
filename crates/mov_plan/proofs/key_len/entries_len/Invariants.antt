use Rattle.std.proofs.Common.{◌≡◌, ◌≤◌, ◌+◌, length, min}
use Rattle.std.specs.List.{flat_map}
use Rattle.container_model.specs.Chunk.{spell}
use Rattle.qt_keys.proofs.Pieces.{from}
use Rattle.qt_keys.specs.Table.{entry_atom}
use Rattle.mov_plan.proofs.KeySizes.{most}
use Rattle.mov_plan.proofs.key_len.entries_len.Given as goal

-- the length so far and that of what is left are the whole
abbrev pub invariant-entries : goal.invariant-entries
invariant-entries l = record {
  small : l.len ≤ most;
  whole : min (l.len + length (from (λ x. spell (entry_atom x)) l.entry-index l.entries)) most ≡ min (length (flat_map (λ x. spell (entry_atom x)) l.entries)) most;
}
