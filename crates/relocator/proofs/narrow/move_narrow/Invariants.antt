use Rattle.std.proofs.Common.{◌≡◌, ◌*◌, ◌++◌, drop}
use Rattle.part_tree.specs.declared.table.TableForm.TheVariants.{Chunks32}
use Rattle.part_tree.specs.Tables.{relocated}
use Rattle.relocator.proofs.narrow.move_narrow.Given as goal

-- the rows so far are moved, and the others are as before
abbrev pub invariant-loop-k : goal.invariant-loop-k
invariant-loop-k l = record {
  page : l.page ≡ relocated l.moves Chunks32 l.k l.fn.page ++ drop (4 * l.k) l.fn.page;
}
