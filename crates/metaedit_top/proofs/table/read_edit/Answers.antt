use Rattle.std.proofs.Common.{rules, ◌≡◌, ◌∙◌, List, ℕ, Result, Err, Ok, refl, sym, subst, ap}
use Rattle.part_tree.specs.declared.field.EditItem.{EditItem}
use Rattle.core_table.specs.Answers.{Answers}
use Rattle.core_table.specs.declared.fault.TableFault.{TableFault}
use Rattle.metaedit_top.specs.declared.format.TableFormat.{TableFormat}
use Rattle.metaedit_top.specs.Tables.{GivesEdit, RefusesTable, form_of, stop_of_source, stop_of_table, table_of}
use Rattle.metaedit_top.proofs.TableEdits.{answered, ended, gives, refused, unread}
use Rattle.metaedit_top.proofs.table.read_edit.Goals as goal

pub returns-in_err-bytes-clause-refuses : goal.returns-in_err-bytes-clause-refuses
returns-in_err-bytes-clause-refuses g c =
    let q = c.args.request.now in
    let left = g.S.Source.left c.args.table.now in
    let after = g.S.Source.left c.read_to_end.new.source in
    let fault = c.in_err-bytes.field-0.0 in
    let same : c.from_residual.result ≡ Err (stop_of_source fault) = search rules in
    rw same (unread q c.requires.takes left after fault)

-- the table of what was read
same_table : (f g : TableFormat) (a b x y : List ℕ) → f ≡ g → a ≡ b → x ≡ y → table_of f a x ≡ table_of g b y
same_table f g a b x y form bytes file = ap (λ (h : TableFormat). table_of h a x) form ∙ ap (λ (z : List ℕ). table_of g z x) bytes ∙ ap (table_of g b) file

pub returns-clause-edit : goal.returns-clause-edit
returns-clause-edit g c =
    let q = c.args.request.now in
    let left = g.S.Source.left c.args.table.now in
    let after = g.S.Source.left c.read_to_end.new.source in
    let e = c.in_ok-edit.edit in
    let same = same_table _ _ _ _ _ _ c.form-form.ensures c.as_slice.ensures c.as_slice-2.ensures in
    gives q left after c.in_ok-bytes.bytes c.in_ok-bytes.ensures.table (Ok e)
    (answered _ e (subst (λ (a : Result (List EditItem) TableFault). Answers a (Ok e)) same c.in_ok-edit.ensures))

pub returns-clause-whole : goal.returns-clause-whole
returns-clause-whole g c = λ all told.
    let q = c.args.request.now in
    let left = g.S.Source.left c.args.table.now in
    let after = g.S.Source.left c.read_to_end.new.source in
    let e = c.in_ok-edit.edit in
    let same = same_table _ _ _ _ _ _ c.form-form.ensures c.as_slice.ensures c.as_slice-2.ensures in
    ended q left after c.in_ok-bytes.bytes c.in_ok-bytes.ensures.table e
    (answered _ e (subst (λ (a : Result (List EditItem) TableFault). Answers a (Ok e)) same c.in_ok-edit.ensures)) all told

pub returns-in_err-edit-clause-refuses : goal.returns-in_err-edit-clause-refuses
returns-in_err-edit-clause-refuses g c =
    let q = c.args.request.now in
    let left = g.S.Source.left c.args.table.now in
    let after = g.S.Source.left c.read_to_end.new.source in
    let fault = c.in_err-edit.field-0.0 in
    let same = same_table _ _ _ _ _ _ c.form-form.ensures c.as_slice.ensures c.as_slice-2.ensures in
    let told : c.from_residual-in_err-edit.result ≡ Err (stop_of_table fault) = search rules in
    rw told (refused q c.requires.takes left after c.in_ok-bytes.bytes c.in_ok-bytes.ensures.table fault
    (subst (λ (a : Result (List EditItem) TableFault). Answers a (Err fault)) same c.in_err-edit.ensures))
