use Rattle.std.proofs.Common.{◌≡◌, map, take}
use Rattle.qt_keys.specs.Table.{index_in}
use Rattle.qt_keys.proofs.lawful.indexes_of.Given as goal

abbrev pub invariant-loop-item : goal.invariant-loop-item
invariant-loop-item l = l.indexes.items ≡ map index_in (take l.item-index l.items)
