use Rattle.std.proofs.Common.{◌≡◌, drop}
use Rattle.qt_keys.specs.Table.{items_among}
use Rattle.qt_keys.proofs.lawful.items_among.Given as goal

-- none was met so far
abbrev pub invariant-loop-child : goal.invariant-loop-child
invariant-loop-child l = items_among (drop l.child-index l.children) ≡ items_among l.children
