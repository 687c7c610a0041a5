use Rattle.std.proofs.Common.{arith}
use Rattle.edit_journal.proofs.Runs.{joins_first, joins_more, joins_long, joins_end}
use Rattle.edit_journal.proofs.cut.plain_end.Goals as goal

pub loop-end-init : goal.loop-end-init
loop-end-init c = record { low = omega arith; inside = c.requires; joins = joins_first c.args.bytes.now c.args.from }

pub returns-then-run-ge-LEAST_RUN-clause-joins : goal.returns-then-run-ge-LEAST_RUN-clause-joins
returns-then-run-ge-LEAST_RUN-clause-joins c =
    let e = c.run_len-run.ensures in
    joins_long c.args.bytes.now c.args.from c.loop-end.end c.run_len-run.result c.loop-end.invariant.joins (record { runs = e.runs; same = e.same; some = e.some }) c.if-run-ge-LEAST_RUN.true

pub loop-end-preserved : goal.loop-end-preserved
loop-end-preserved c =
    let so = c.loop-end.invariant in
    let e = c.run_len-run.ensures in
    record {
      low = let low = so.low in omega arith;
      inside = e.some.1;
      joins = joins_more c.args.bytes.now c.args.from c.loop-end.end c.run_len-run.result so.low so.joins (record { runs = e.runs; same = e.same; some = e.some }) c.if-run-ge-LEAST_RUN.false;
    }

pub returns-clause-joins : goal.returns-clause-joins
returns-clause-joins c = joins_end c.args.bytes.now c.args.from c.loop-end.end c.loop-end.invariant.joins c.loop-end-test.false
