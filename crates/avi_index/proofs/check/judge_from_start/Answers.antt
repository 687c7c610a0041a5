use Rattle.avi_index.proofs.Judged.{at_row, judged_none, judged_astray, judged_overlap, judged_fine}
use Rattle.avi_index.proofs.check.judge_from_start.Goals as goal

pub returns-then-len-eq0-clause-row : goal.returns-then-len-eq0-clause-row
returns-then-len-eq0-clause-row c row is = judged_none c.args.movi c.args.indexes.now c.args.k row c.from-offset.result c.from-len.result (at_row row c.args.entry.now c.from-offset.result c.from-len.result is c.from-offset.ensures c.from-len.ensures) c.if-len-eq0.true

pub returns-then-not-inside-clause-row : goal.returns-then-not-inside-clause-row
returns-then-not-inside-clause-row c row is =
    judged_astray c.args.movi c.args.indexes.now c.args.k row c.from-offset.result c.from-len.result c.lies_in-inside.result (at_row row c.args.entry.now c.from-offset.result c.from-len.result is c.from-offset.ensures c.from-len.ensures) c.if-len-eq0.false c.lies_in-inside.ensures c.if-not-inside.true

pub returns-then-not-named-clause-row : goal.returns-then-not-named-clause-row
returns-then-not-named-clause-row c row is =
    judged_overlap c.args.movi c.args.indexes.now c.args.k row c.from-offset.result c.from-len.result c.lies_in-inside.result c.names-named.result (at_row row c.args.entry.now c.from-offset.result c.from-len.result is c.from-offset.ensures c.from-len.ensures)
    c.if-len-eq0.false c.lies_in-inside.ensures c.names-named.ensures c.if-not-inside.false c.if-not-named.true

pub returns-clause-row : goal.returns-clause-row
returns-clause-row c row is =
    judged_fine c.args.movi c.args.indexes.now c.args.k row c.from-offset.result c.from-len.result c.lies_in-inside.result c.names-named.result (at_row row c.args.entry.now c.from-offset.result c.from-len.result is c.from-offset.ensures c.from-len.ensures)
    c.if-len-eq0.false c.lies_in-inside.ensures c.names-named.ensures c.if-not-inside.false c.if-not-named.false
