use Rattle.std.proofs.Common.{◌≡◌, ◌*◌, ℕ, List, take, sym, subst}
use Rattle.me_disk.specs.Calls.Call.{AppendWork}
use Rattle.me_disk.specs.Steps.{Does}
use Rattle.part_tree.specs.Tables.{width, relocated, HasBase}
use Rattle.file_swap.specs.declared.table_rows.TableRows.{TableRows}
use Rattle.file_swap.specs.declared.rewrite.Stage.{Stage}
use Rattle.file_swap.specs.declared.rewrite.Stage.TheVariants.{AppendRows}
use Rattle.file_swap.specs.Parts.{step_of, table_at, page_len, change_of, held_in}
use Rattle.file_swap.specs.Steps.{changed}
use Rattle.file_swap.specs.Fits.{StepDoes}
use Rattle.file_swap.proofs.Copies.{table_based}
use Rattle.file_swap.proofs.rewrite.Rewriting.call.Goals as goal

pub append_rows-requires-clause-base : goal.append_rows-requires-clause-base
append_rows-requires-clause-base g c = let Based : TableRows → Type 0 = λ t. HasBase t.form in subst Based (sym c.table-form.ensures) (table_based c.args.self.now c.in-AppendRows.i c.requires.sound)

pub returns-in-AppendRows-clause-does : goal.returns-in-AppendRows-clause-does
returns-in-AppendRows-clause-does g c =
    let s = c.args.self.now.parts in
    let buffer = c.args.self.now.buffer.items in
    let old = g.D.Depot.disk c.args.depot.now in
    let new = g.D.Depot.disk c.append_rows.new.depot in
    let i = c.in-AppendRows.i in
    let first = c.in-AppendRows.first in
    let table : c.table-form.result ≡ table_at s i = c.table-form.ensures in
    let rows : c.page_len-rows.result ≡ page_len s i first = c.page_len-rows.ensures.is in
    let held : c.deref-in-AppendRows.result.now ≡ buffer = c.deref-in-AppendRows.ensures.value in
    let bytes : relocated s.moves c.table-form.result.form c.page_len-rows.result (take (width c.table-form.result.form * c.page_len-rows.result) c.deref-in-AppendRows.result.now) ≡ changed (change_of s i first) (held_in s (AppendRows i first) buffer)
    = λ j. relocated s.moves (table j).form (rows j) (take (width (table j).form * rows j) (held j)) in
    subst (λ (t : Stage). StepDoes (step_of s t) (held_in s t buffer) old new c.append_rows.result) (sym c.in-AppendRows.is)
    (subst (λ (b : List ℕ). Does (AppendWork b) old new c.append_rows.result) bytes c.append_rows.ensures.does)
