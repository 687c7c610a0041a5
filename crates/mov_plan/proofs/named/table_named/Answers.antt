use Rattle.std.proofs.Common.{rules, sym, ap, ◌≡◌, ◌∙◌, ℕ, List, Option, None, drop, length, true, false}
use Rattle.part_tree.specs.Tables.{RowsNamed}
use Rattle.part_tree.specs.declared.table.TableForm.{TableForm}
use Rattle.table_misfits.specs.Misfits.{misfits}
use Rattle.table_misfits.proofs.Misfits.{named_none, none_named}
use Rattle.mov_plan.specs.Tables.{form_of}
use Rattle.mov_plan.proofs.Namings.{named_wide, wide_named}
use Rattle.mov_plan.proofs.named.table_named.Goals.{else-widened-via-then-widened+else-not-table, else-widened-via-else-widened}
use Rattle.mov_plan.proofs.named.table_named.Goals as goal

pub returns-clause-named : goal.returns-clause-named
returns-clause-named g c = λ b holds yes.
    let t = c.args.table.now in
    let ms = c.args.moves.now in
    let x = drop t.at b in
    let wide : c.args.widened ≡ true → t.wide ≡ true =
    elim c.else-widened.branch [
      | else-widened-via-then-widened+else-not-table w ↦ λ y. w.if-not-table.false
      | else-widened-via-else-widened w ↦ λ y. absurd cc
    ]
    in
    let none : c.in_ok-misfit.misfit ≡ None = search rules in
    let rows : misfits ms (form_of t.wide false) t.rows x ≡ misfits ms (form_of t.wide false) c.from.result x = ap (λ (n : ℕ). misfits ms (form_of t.wide false) n x) (sym c.from.ensures) in
    let form : misfits ms (form_of t.wide false) c.from.result x ≡ misfits ms c.form_in.result c.from.result x = ap (λ (f : TableForm). misfits ms f c.from.result x) (sym c.form_in.ensures) in
    let found : misfits ms (form_of t.wide false) t.rows x ≡ None = rows ∙ form ∙ sym (c.in_ok-misfit.ensures.misfit b holds) ∙ none in
    wide_named c.args.widened ms b t wide (none_named ms (form_of t.wide false) t.rows x found)

pub returns-clause-not_named : goal.returns-clause-not_named
returns-clause-not_named g c = λ b holds whole lies no named.
    let t = c.args.table.now in
    let ms = c.args.moves.now in
    let x = drop t.at b in
    let wide : c.args.widened ≡ true → t.wide ≡ true =
    elim c.else-widened.branch [
      | else-widened-via-then-widened+else-not-table w ↦ λ y. w.if-not-table.false
      | else-widened-via-else-widened w ↦ λ y. absurd cc
    ]
    in
    let rows : misfits ms (form_of t.wide false) t.rows x ≡ misfits ms (form_of t.wide false) c.from.result x = ap (λ (n : ℕ). misfits ms (form_of t.wide false) n x) (sym c.from.ensures) in
    let form : misfits ms (form_of t.wide false) c.from.result x ≡ misfits ms c.form_in.result c.from.result x = ap (λ (f : TableForm). misfits ms f c.from.result x) (sym c.form_in.ensures) in
    let none : misfits ms (form_of t.wide false) t.rows x ≡ None = named_none ms (form_of t.wide false) t.rows x (named_wide c.args.widened ms b t wide named) in
    let found : c.in_ok-misfit.misfit ≡ None = c.in_ok-misfit.ensures.misfit b holds ∙ sym form ∙ sym rows ∙ none in
    let yes : c.is_none.result ≡ true = search (rules, found) in
    absurd cc
