use Rattle.std.proofs.Common.{drop}
use Rattle.mov_file.specs.Keys.{items_held}
use Rattle.qt_keys.specs.Table.{items_of}
use Rattle.mov_file.proofs.Grown.{Owes}
use Rattle.mov_file.proofs.keys.take_keys.Given as goal

-- the values so far, and the items that are left
abbrev pub invariant-items : goal.invariant-items
invariant-items l = Owes l.fields l.fn.fields (items_held l.entries (drop l.item-index (items_of l.table))) (items_held l.entries (items_of l.table))
