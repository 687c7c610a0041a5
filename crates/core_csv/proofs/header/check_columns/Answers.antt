use Rattle.std.proofs.Common.{◌≡◌, ◌<◌, ◌+◌, ◌∙◌, ap, length, get_or, [], drop, rules, Ok, Err, add-one}
use Rattle.csv.specs.Records.{fields_of}
use Rattle.core_table.specs.Answers.{Answers, unless}
use Rattle.core_csv.specs.Table.{column_fault, header_fault}
use Rattle.core_csv.proofs.Columns.{header_goes_on, header_stops}
use Rattle.core_csv.proofs.header.check_columns.Goals as goal

pub returns-in_err-check_column : goal.returns-in_err-check_column
returns-in_err-check_column c =
    let cells = fields_of c.args.header.now in
    let at = c.loop-at.at in
    let e = c.in_err-check_column.field-0.0 in
    let inside : at < length cells = search rules in
    let name : c.cell_at.result.now ≡ get_or cells at [] = c.cell_at.ensures in
    let h : Answers (unless (column_fault (at + 1) _ (get_or cells at [])) (Ok (tt {0}))) (Err e) = rw name at c.in_err-check_column.ensures.answer in
    let inv = c.loop-at.invariant in
    let same : c.from_residual.result ≡ Err e = search rules in
    rw same (header_stops cells inv.0 _ (at + 1) at e (header_fault 2 [] (drop 1 cells)) inside inv.1 inv.2 h)

pub loop-at-preserved : goal.loop-at-preserved
loop-at-preserved c =
    let cells = fields_of c.args.header.now in
    let at = c.loop-at.at in
    let inside : at < length cells = search rules in
    let name : c.cell_at.result.now ≡ get_or cells at [] = c.cell_at.ensures in
    let h = rw name at c.in_ok-check_column.ensures.answer in
    let put = rw name at c.in_ok-check_column.ensures.taken in
    let inv = c.loop-at.invariant in
    let next = header_goes_on cells inv.0 _ _ (at + 1) at (header_fault 2 [] (drop 1 cells)) inside inv.1 inv.2 h put in
    (next.0, next.1, ap (λ n. header_fault n next.0 (drop (at + 1) cells)) (add-one (at + 1)) ∙ next.2)
