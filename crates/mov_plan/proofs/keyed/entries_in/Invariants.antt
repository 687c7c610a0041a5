use Rattle.std.proofs.Common.{◌≡◌, drop}
use Rattle.qt_keys.specs.Table.{entries_among}
use Rattle.mov_plan.proofs.keyed.entries_in.Given as goal

-- none was met so far
abbrev pub invariant-children : goal.invariant-children
invariant-children l = entries_among (drop l.child-index l.children) ≡ entries_among l.children
