use Rattle.std.proofs.Common.{◌≡◌, ◌++◌, length}
use Rattle.std.specs.List.{flat_map}
use Rattle.std.specs.Int.{to_be_bytes, w32}
use Rattle.container_model.specs.Chunk.{spell}
use Rattle.qt_keys.specs.Table.{entry_atom}
use Rattle.qt_keys.proofs.Pieces.{from}
use Rattle.qt_keys.proofs.spell.keys_body.Given as goal

-- what is spelled so far and the entries that are left are the whole
abbrev pub invariant-loop-entry : goal.invariant-loop-entry
invariant-loop-entry l = l.body.items ++ from (λ e. spell (entry_atom e)) l.entry-index l.entries ≡ (to_be_bytes w32 l.head ++ to_be_bytes w32 (length l.entries)) ++ flat_map (λ e. spell (entry_atom e)) l.entries
