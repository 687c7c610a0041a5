use Rattle.std.proofs.Common.{◌≡◌, ◌++◌}
use Rattle.std.specs.List.{flat_map}
use Rattle.container_model.specs.Chunk.{spell}
use Rattle.qt_keys.specs.Table.{value_atom}
use Rattle.qt_keys.proofs.Pieces.{from}
use Rattle.qt_keys.proofs.spell.values_body.Given as goal

-- what is spelled so far and the values that are left are the whole
abbrev pub invariant-loop-value : goal.invariant-loop-value
invariant-loop-value l = l.body.items ++ from (λ v. spell (value_atom v)) l.value-index l.values ≡ flat_map (λ v. spell (value_atom v)) l.values
