use Rattle.std.proofs.Common.{arith}
use Rattle.rf64_ds64.proofs.Rows.{rows_more}
use Rattle.rf64_ds64.proofs.read_rows.Goals as goal

pub rows-preserved : goal.rows-preserved
rows-preserved c =
    rows_more c.args.count c.rows.k c.args.table.now c.rows.found.items c.push.new.self.items c.row_at.result _ (omega arith) c.requires c.row_at.ensures.id c.row_at.ensures.size c.in-Ok.ensures.items
    c.rows.invariant
