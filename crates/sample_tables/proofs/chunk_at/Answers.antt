use Rattle.std.proofs.Common.{arith}
use Rattle.sample_tables.proofs.Rows.{narrow_place, wide_place}
use Rattle.sample_tables.proofs.chunk_at.Goals as goal

pub returns-then-wide-clause-place : goal.returns-then-wide-clause-place
returns-then-wide-clause-place c = wide_place c.args.wide c.args.body.now c.args.k c.wide_row.result c.if-wide.true (omega arith) c.wide_row.ensures.place

pub returns-else-wide-clause-place : goal.returns-else-wide-clause-place
returns-else-wide-clause-place c = narrow_place c.args.wide c.args.body.now c.args.k c.narrow_row.result c.if-wide.false (omega arith) c.narrow_row.ensures.place
