use Rattle.std.proofs.Common.{◌≡◌, ◌∙◌, Some, None, arith, sym, ap, subst, false, true}
use Rattle.std.specs.Prelude.{MatchOption}
use Rattle.qt_keys.specs.Read.{child_read}
use Rattle.qt_keys.specs.Short.{each}
use Rattle.qt_keys.specs.Table.{is_lawful}
use Rattle.qt_keys.proofs.Back.{is_read, table_back}
use Rattle.qt_keys.proofs.Whole.{lawful_by, no_large_table, table_by}
use Rattle.qt_keys.proofs.read.read_keys.Goals as goal

pub returns-then-body-gt-MOST_BYTES-clause-table : goal.returns-then-body-gt-MOST_BYTES-clause-table
returns-then-body-gt-MOST_BYTES-clause-table c = sym (no_large_table c.args.body.now (omega arith))

pub returns-in_default-clause-table : goal.returns-in_default-clause-table
returns-in_default-clause-table c =
    let b = c.args.body.now in
    sym (table_by b None (omega arith) (subst (λ o. MatchOption o (each child_read b ≡ None) (λ all. each child_read b ≡ Some all.items)) c.in_default.is c.in_ok-children.ensures))

pub returns-then-not-branch-clause-table : goal.returns-then-not-branch-clause-table
returns-then-not-branch-clause-table c =
    let b = c.args.body.now in
    let cs = c.in-Some.children.items in
    let read : each child_read b ≡ Some cs = subst (λ o. MatchOption o (each child_read b ≡ None) (λ all. each child_read b ≡ Some all.items)) c.in-Some.is c.in_ok-children.ensures in
    let no : is_lawful cs ≡ false = ap is_lawful (sym c.deref.ensures.value) ∙ sym c.in_ok-is_lawful.ensures ∙ c.if-not-branch.true in
    sym (table_by b (Some cs) (omega arith) read ∙ lawful_by cs false no)

pub returns-clause-table : goal.returns-clause-table
returns-clause-table c =
    let b = c.args.body.now in
    let cs = c.in-Some.children.items in
    let read : each child_read b ≡ Some cs = subst (λ o. MatchOption o (each child_read b ≡ None) (λ all. each child_read b ≡ Some all.items)) c.in-Some.is c.in_ok-children.ensures in
    let yes : is_lawful cs ≡ true = ap is_lawful (sym c.deref.ensures.value) ∙ sym c.in_ok-is_lawful.ensures ∙ c.if-not-branch.false in
    sym (table_by b (Some cs) (omega arith) read ∙ lawful_by cs true yes ∙ ap (λ xs. Some (record { children = xs })) (sym c.of.ensures))

pub returns-clause-read : goal.returns-clause-read
returns-clause-read c = is_read c.args.body.now (record { children = c.of.result }) (λ i. (c.type_inv.body i).fits) (sym (returns-clause-table c))

pub returns-clause-spelled : goal.returns-clause-spelled
returns-clause-spelled c = table_back c.args.body.now (record { children = c.of.result }) (λ i. (c.type_inv.body i).fits) (sym (returns-clause-table c))
