use Rattle.std.proofs.Common.{List, ℕ, subst, take, drop}
use Rattle.part_tree.specs.declared.table.Base.TheVariants.{FileStart}
use Rattle.part_tree.specs.declared.table.TableForm.{TableForm}
use Rattle.part_tree.specs.declared.table.TableForm.TheVariants.{Idx1, Standard, Chunks32}
use Rattle.part_tree.specs.Moves.{Move}
use Rattle.part_tree.specs.Tables.{RowsNamed}
use Rattle.relocator.specs.Pages.{count}
use Rattle.crash_rows.specs.declared.tables.TheConstants.{HEAD}
use Rattle.crash_rows.proofs.TablePlans.{tables_belong}
use Rattle.crash_rows.proofs.tables.is_for.Goals as goal

abbrev Rows : TableForm → List ℕ → List Move → Type 0
Rows form page ms = RowsNamed ms form (count form page) page

pub returns : goal.returns
returns c = λ yes.
    let o = c.args.file.now in
    let all = c.all_are.ensures yes in
    let gone = c.in_ok-moves.ensures in
    tables_belong o c.if-file-ne16516.false
    (subst (Rows (Idx1 FileStart) (take 48 (drop 16 o))) gone (c.in_ok-idx1.ensures all.0))
    (subst (Rows (Standard HEAD 16000) (take 24 (drop 64 o))) gone (c.in_ok-standard.ensures all.1))
    (subst (Rows Chunks32 (take 16388 (drop 88 o))) gone (c.in_ok-chunks.ensures all.2))
