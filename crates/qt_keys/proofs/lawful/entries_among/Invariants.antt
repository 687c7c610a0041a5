use Rattle.std.proofs.Common.{◌≡◌, drop}
use Rattle.qt_keys.specs.Table.{entries_among}
use Rattle.qt_keys.proofs.lawful.entries_among.Given as goal

-- none was met so far
abbrev pub invariant-loop-child : goal.invariant-loop-child
invariant-loop-child l = entries_among (drop l.child-index l.children) ≡ entries_among l.children
