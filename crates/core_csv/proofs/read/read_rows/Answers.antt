use Rattle.std.proofs.Common.{◌≡◌, ◌+◌, ◌∙◌, drop, ap, rules, Err, inl, inr, true, false}
use Rattle.csv.specs.Records.{fields_of}
use Rattle.core_csv.proofs.Rows.{row_stopped, row_went_on, rows_ended, rows_full}
use Rattle.core_csv.proofs.read.read_rows.Goals as goal

pub returns-in_err-next : goal.returns-in_err-next
returns-in_err-next c =
    let same : c.from_residual.result ≡ Err c.in_err-next.field-0.0 = search rules in
    rw same (inr (ap (λ e. Err e) c.in_err-next.ensures.memory))

pub returns-then-not-branch : goal.returns-then-not-branch
returns-then-not-branch c =
    let none : c.in_ok-next.field-0 ≡ false = search rules in
    let next = rw none at c.in_ok-next.ensures.found in
    inl (c.edit_of.ensures ∙ rows_ended c.args.file.now (drop 1 (fields_of c.args.header.now)) (c.loop-k.k + 1) c.loop-k.found _ c.args.most c.loop-k.k _ _ _ _ _ (search rules) next c.loop-k.invariant.left)

pub returns-in_err-found : goal.returns-in_err-found
returns-in_err-found c =
    let some : c.in_ok-next.field-0 ≡ true = search rules in
    let next = rw some at c.in_ok-next.ensures.found in
    let names = drop 1 (fields_of c.args.header.now) in
    let e = c.in_err-found.field-0.0 in
    let same : c.from_residual-in_err-found.result ≡ Err e = search rules in
    rw same (row_stopped c.args.file.now names (c.loop-k.k + 1) c.loop-k.found _ c.args.most c.loop-k.k _ _ _ _ _ e (search rules) next c.loop-k.invariant.left c.in_err-found.ensures)

pub loop-k-preserved : goal.loop-k-preserved
loop-k-preserved c =
    let some : c.in_ok-next.field-0 ≡ true = search rules in
    let next = rw some at c.in_ok-next.ensures.found in
    let names = drop 1 (fields_of c.args.header.now) in
    record {
      reading = c.in_ok-next.ensures.reading;
      left = row_went_on c.args.file.now names (c.loop-k.k + 1) c.loop-k.found _ c.args.most c.loop-k.k _ _ _ _ _ _ (search rules) next c.loop-k.invariant.left c.in_ok-found.ensures;
    }

pub returns : goal.returns
returns c =
    inl (c.edit_of-2.ensures ∙ rows_full c.args.file.now (drop 1 (fields_of c.args.header.now)) (c.loop-k.k + 1) c.loop-k.found _ c.args.most c.loop-k.k _ _ (search rules) c.loop-k.invariant.left)
