use Rattle.std.proofs.Common.{◌≡◌, ◌++◌, drop, cond}
use Rattle.qt_keys.specs.Set.{without_item}
use Rattle.qt_keys.proofs.set.items_without.Given as goal

-- what is left so far and what is to come
abbrev pub invariant-loop-item : goal.invariant-loop-item
invariant-loop-item l = l.left.items ++ cond l.dropped (drop l.item-index l.items) (without_item l.index (drop l.item-index l.items)) ≡ without_item l.index l.items
