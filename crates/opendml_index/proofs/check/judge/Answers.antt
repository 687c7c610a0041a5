use Rattle.std.proofs.Common.{arith, ◌∙◌}
use Rattle.opendml_index.proofs.Judged.{judged_none, judged_overlap, judged_fine, judged_far}
use Rattle.opendml_index.proofs.check.judge.Goals as goal

pub returns-then-len-eq0-clause-row : goal.returns-then-len-eq0-clause-row
returns-then-len-eq0-clause-row c row is ends =
    judged_none c.args.movis.now c.args.indexes.now c.args.base c.args.k row c.from-offset.result c.from-len.result (record { offset = c.from-offset.ensures ∙ is.offset; len = c.from-len.ensures ∙ is.size }) c.if-len-eq0.true

pub returns-then-base-offset-clause-row : goal.returns-then-base-offset-clause-row
returns-then-base-offset-clause-row c row is ends =
    judged_far c.args.movis.now c.args.indexes.now c.args.base c.args.k row c.from-offset.result c.from-len.result (record { offset = c.from-offset.ensures ∙ is.offset; len = c.from-len.ensures ∙ is.size }) c.if-len-eq0.false (omega (arith, c.if-base-offset.true)) ends

pub returns-then-not-clear-clause-row : goal.returns-then-not-clear-clause-row
returns-then-not-clear-clause-row c row is ends =
    judged_overlap c.args.movis.now c.args.indexes.now c.args.base c.args.k row c.from-offset.result c.from-len.result c.in_one-inside.result c.second_lies-second.result c.is_clear-clear.result (record { offset = c.from-offset.ensures ∙ is.offset; len = c.from-len.ensures ∙ is.size }) c.if-len-eq0.false
    c.in_one-inside.ensures (c.second_lies-second.ensures row is) c.is_clear-clear.ensures c.if-not-inside-second.false c.if-not-clear.true

pub returns-clause-row : goal.returns-clause-row
returns-clause-row c row is ends =
    judged_fine c.args.movis.now c.args.indexes.now c.args.base c.args.k row c.from-offset.result c.from-len.result c.in_one-inside.result c.second_lies-second.result c.is_clear-clear.result (record { offset = c.from-offset.ensures ∙ is.offset; len = c.from-len.ensures ∙ is.size }) c.if-len-eq0.false
    c.in_one-inside.ensures (c.second_lies-second.ensures row is) c.is_clear-clear.ensures c.if-not-inside-second.false c.if-not-clear.false
