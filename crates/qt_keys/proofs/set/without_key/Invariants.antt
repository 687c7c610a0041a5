use Rattle.std.proofs.Common.{◌≡◌, map, take}
use Rattle.qt_keys.specs.Set.{child_without}
use Rattle.qt_keys.proofs.set.without_key.Given as goal

abbrev pub invariant-loop-child : goal.invariant-loop-child
invariant-loop-child l = l.new.items ≡ map (child_without l.index) (take l.child-index l.children)
