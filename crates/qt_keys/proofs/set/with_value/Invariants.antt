use Rattle.std.proofs.Common.{◌≡◌, map, take}
use Rattle.qt_keys.specs.Set.{child_set}
use Rattle.qt_keys.proofs.set.with_value.Given as goal

abbrev pub invariant-loop-child : goal.invariant-loop-child
invariant-loop-child l = l.new.items ≡ map (child_set l.name l.index l.raw) (take l.child-index l.children)
