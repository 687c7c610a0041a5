use Rattle.std.proofs.Common.{◌≡◌, drop}
use Rattle.qt_keys.specs.Table.{items_among}
use Rattle.mov_plan.proofs.keyed.items_in.Given as goal

-- none was met so far
abbrev pub invariant-children : goal.invariant-children
invariant-children l = items_among (drop l.child-index l.children) ≡ items_among l.children
