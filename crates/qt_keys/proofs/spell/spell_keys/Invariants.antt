use Rattle.std.proofs.Common.{◌≡◌, ◌++◌}
use Rattle.std.specs.List.{flat_map}
use Rattle.qt_keys.specs.Table.{child_bytes}
use Rattle.qt_keys.proofs.Pieces.{from}
use Rattle.qt_keys.proofs.spell.spell_keys.Given as goal

-- what is spelled so far and the children that are left are the whole
abbrev pub invariant-loop-child : goal.invariant-loop-child
invariant-loop-child l = l.out.items ++ from child_bytes l.child-index l.child-items ≡ flat_map child_bytes l.child-items
