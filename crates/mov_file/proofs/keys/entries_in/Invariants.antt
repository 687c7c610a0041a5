use Rattle.std.proofs.Common.{◌≡◌, drop}
use Rattle.qt_keys.specs.Table.{entries_among}
use Rattle.mov_file.proofs.keys.entries_in.Given as goal

-- no child so far is `keys`
abbrev pub invariant-loop-child : goal.invariant-loop-child
invariant-loop-child l = entries_among (drop l.child-index l.children) ≡ entries_among l.children
