use Rattle.std.proofs.Common.{◌≡◌, ◌<◌, ◌+◌, ◌∙◌, ap, length, get_or, [], drop, rules, Ok, Err, add-one}
use Rattle.csv.specs.Records.{fields_of}
use Rattle.core_table.specs.Answers.{Answers}
use Rattle.core_csv.specs.Table.{cell_change, row_items}
use Rattle.core_csv.proofs.Items.{before, change_stops, change_is, items_end, items_step, items_stop}
use Rattle.core_csv.proofs.Sound.{sound_items}
use Rattle.core_csv.proofs.cell.row_items.Goals as goal

pub returns-in_err-change : goal.returns-in_err-change
returns-in_err-change c =
    let names = fields_of c.args.header.now in
    let cells = fields_of c.args.row.now in
    let at = c.loop-at.at in
    let n = c.args.n in
    let e = c.in_err-change.field-0.0 in
    let inside : at < length names = search rules in
    let same : c.from_residual.result ≡ Err e = search rules in
    let h : Answers (cell_change n (at + 1) (get_or cells at [])) (Err e) = rw c.cell_at.ensures at c.in_err-change.ensures in
    let whole = row_items n 2 (drop 1 names) (drop 1 cells) in
    rw same (change_stops (cell_change n (at + 1) (get_or cells at [])) whole e
    (λ is. items_stop n (at + 1) names cells at c.loop-at.items.items e whole inside c.requires.width is c.loop-at.invariant) h)

pub loop-at-preserved : goal.loop-at-preserved
loop-at-preserved c =
    let names = fields_of c.args.header.now in
    let cells = fields_of c.args.row.now in
    let at = c.loop-at.at in
    let n = c.args.n in
    let inside : at < length names = search rules in
    let h : Answers (cell_change n (at + 1) (get_or cells at [])) (Ok c.in_ok-change.change) = rw c.cell_at.ensures at c.in_ok-change.ensures in
    let is = change_is (cell_change n (at + 1) (get_or cells at [])) c.in_ok-change.change h in
    let put = rw c.cell_at-in-loop-at.ensures at c.in_ok-put_item.ensures in
    let next = items_step n (at + 1) names cells at c.loop-at.items.items c.put_item.new.items.items c.in_ok-change.change (row_items n 2 (drop 1 names) (drop 1 cells))
    inside c.requires.width is put c.loop-at.invariant in
    ap (λ m. before c.put_item.new.items.items (row_items n m (drop (at + 1) names) (drop (at + 1) cells))) (add-one (at + 1)) ∙ next

pub of-requires : goal.of-requires
of-requires c =
    let names = fields_of c.args.header.now in
    let cells = fields_of c.args.row.now in
    sound_items c.args.n 2 2 (drop 1 names) (drop 1 cells) [] c.loop-at.items.items c.requires.sound
    (items_end c.args.n (c.loop-at.at + 1) names cells c.loop-at.at c.loop-at.items.items (row_items c.args.n 2 (drop 1 names) (drop 1 cells)) (search rules) c.loop-at.invariant)
