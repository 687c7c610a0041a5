use Rattle.std.proofs.Common.{◌≡◌, ◌*◌, ◌++◌, drop}
use Rattle.part_tree.specs.Tables.{RowsNamed, relocated, width}
use Rattle.relocator.proofs.page.relocate_each.Given as goal

-- the rows so far are moved, and the others are as before
abbrev pub invariant-loop-k : goal.invariant-loop-k
invariant-loop-k l = record {
  page : l.page ≡ relocated l.moves l.form l.k l.fn.page ++ drop (width l.form * l.k) l.fn.page;
  named : RowsNamed l.moves l.form l.k l.fn.page;
}
