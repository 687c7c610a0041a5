use Rattle.edit_journal.proofs.Runs.{long_piece, plain_piece}
use Rattle.edit_journal.proofs.cut.cut_at.Goals as goal

pub returns-then-run-ge-LEAST_RUN-clause-cut : goal.returns-then-run-ge-LEAST_RUN-clause-cut
returns-then-run-ge-LEAST_RUN-clause-cut c =
    let e = c.run_len-run.ensures in
    long_piece c.args.bytes.now c.args.from c.run_len-run.result (record { runs = e.runs; same = e.same; some = e.some }) c.if-run-ge-LEAST_RUN.true

pub returns-clause-cut : goal.returns-clause-cut
returns-clause-cut c =
    let e = c.run_len-run.ensures in
    plain_piece c.args.bytes.now c.args.from c.run_len-run.result c.plain_end.result (record { runs = e.runs; same = e.same; some = e.some }) c.if-run-ge-LEAST_RUN.false c.plain_end.ensures.inside.0 c.plain_end.ensures.joins
