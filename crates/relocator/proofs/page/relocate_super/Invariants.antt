use Rattle.std.proofs.Common.{◌≡◌, ◌*◌, ◌++◌, drop}
use Rattle.part_tree.specs.declared.table.TableForm.TheVariants.{Super}
use Rattle.part_tree.specs.Tables.{RowsNamed, relocated}
use Rattle.relocator.proofs.page.relocate_super.Given as goal

-- the rows so far are moved, and the others are as before
abbrev pub invariant-loop-k : goal.invariant-loop-k
invariant-loop-k l = record {
  page : l.page ≡ relocated l.moves Super l.k l.fn.page ++ drop (16 * l.k) l.fn.page;
  named : RowsNamed l.moves Super l.k l.fn.page;
}
