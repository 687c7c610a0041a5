use Rattle.std.proofs.Common.{◌≡◌, ap, rules, arith, Err, inl, inr, true, false}
use Rattle.csv.specs.Records.{fields_of}
use Rattle.core_csv.specs.Table.{is_header}
use Rattle.core_csv.proofs.Rows.{first_few, first_read, header_stopped, no_header, none_read, rows_of_table, without_header}
use Rattle.core_csv.proofs.read.read_records.Goals as goal

pub returns-in_err-next : goal.returns-in_err-next
returns-in_err-next c =
    let same : c.from_residual.result ≡ Err c.in_err-next.field-0.0 = search rules in
    rw same (inr (ap (λ e. Err e) c.in_err-next.ensures.memory))

pub returns-then-not-branch : goal.returns-then-not-branch
returns-then-not-branch c =
    let none : c.in_ok-next.field-0 ≡ false = search rules in
    let next = rw none at c.in_ok-next.ensures.found in
    inl (no_header c.args.file.now _ (none_read c.args.size _ _ _ _ _ next))

pub returns-then-not-is_header : goal.returns-then-not-is_header
returns-then-not-is_header c =
    let some : c.in_ok-next.field-0 ≡ true = search rules in
    let next = rw some at c.in_ok-next.ensures.found in
    let bad : is_header (fields_of c.next.new.row) ≡ false = search rules in
    inl (without_header c.args.file.now (fields_of c.next.new.row) _ _ (first_read c.args.size _ _ _ _ _ next) bad)

pub check_columns-requires : goal.check_columns-requires
check_columns-requires c =
    let some : c.in_ok-next.field-0 ≡ true = search rules in
    let next = rw some at c.in_ok-next.ensures.found in
    omega (arith, (first_few _ _ _ _ _ next).1, c.requires.size, c.requires.few)

pub returns-in_err-check_columns : goal.returns-in_err-check_columns
returns-in_err-check_columns c =
    let some : c.in_ok-next.field-0 ≡ true = search rules in
    let next = rw some at c.in_ok-next.ensures.found in
    let good : is_header (fields_of c.next.new.row) ≡ true = search rules in
    let e = c.in_err-check_columns.field-0.0 in
    let same : c.from_residual-in_err-check_columns.result ≡ Err e = search rules in
    rw same (header_stopped c.args.file.now (fields_of c.next.new.row) _ _ e (first_read c.args.size _ _ _ _ _ next) good c.in_err-check_columns.ensures)

pub read_rows-requires-clause-small : goal.read_rows-requires-clause-small
read_rows-requires-clause-small c =
    let some : c.in_ok-next.field-0 ≡ true = search rules in
    let next = rw some at c.in_ok-next.ensures.found in
    omega (arith, (first_few _ _ _ _ _ next).1, c.requires.size, c.requires.few)

pub returns : goal.returns
returns c =
    let some : c.in_ok-next.field-0 ≡ true = search rules in
    let next = rw some at c.in_ok-next.ensures.found in
    let good : is_header (fields_of c.next.new.row) ≡ true = search rules in
    rows_of_table c.args.file.now (fields_of c.next.new.row) _ _ c.read_rows.result (first_read c.args.size _ _ _ _ _ next) good c.in_ok-check_columns.ensures c.read_rows.ensures
