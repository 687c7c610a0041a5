use Rattle.std.proofs.Common.{◌≡◌, ◌*◌, take}
use Rattle.part_tree.specs.declared.table.TableForm.TheVariants.{Widen}
use Rattle.part_tree.specs.Tables.{relocated}
use Rattle.relocator.proofs.page.widen_chunks.Given as goal

-- the rows so far are widened
abbrev pub invariant-loop-k : goal.invariant-loop-k
invariant-loop-k l = take (8 * l.k) l.out ≡ relocated l.moves Widen l.k l.page
