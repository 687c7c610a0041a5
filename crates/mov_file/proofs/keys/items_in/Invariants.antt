use Rattle.std.proofs.Common.{◌≡◌, drop}
use Rattle.qt_keys.specs.Table.{items_among}
use Rattle.mov_file.proofs.keys.items_in.Given as goal

-- no child so far is `ilst`
abbrev pub invariant-loop-child : goal.invariant-loop-child
invariant-loop-child l = items_among (drop l.child-index l.children) ≡ items_among l.children
