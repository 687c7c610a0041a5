use Rattle.std.proofs.Common.{◌≡◌, ◌++◌, drop, cond}
use Rattle.qt_keys.specs.Set.{with_item}
use Rattle.qt_keys.proofs.set.items_with.Given as goal

-- what is made so far and what is to come
abbrev pub invariant-loop-item : goal.invariant-loop-item
invariant-loop-item l = l.more.items ++ cond l.set (drop l.item-index l.items) (with_item l.index l.raw (drop l.item-index l.items)) ≡ with_item l.index l.raw l.items
