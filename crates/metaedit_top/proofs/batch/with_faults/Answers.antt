use Rattle.std.proofs.Common.{ℕ, ◌<◌, length, ◌∙◌, arith}
use Rattle.std.proofs.lemmas.List.{length-set}
use Rattle.metaedit_top.proofs.BatchEnds.{rest_more, told_more}
use Rattle.metaedit_top.proofs.batch.with_faults.Goals as goal

pub loop-i-preserved : goal.loop-i-preserved
loop-i-preserved g c =
    let inv = c.loop-i.invariant in
    let low : c.loop-i.i < length c.args.ends.items = let t = c.loop-i-test.true in let n = c.len-i-end.ensures in omega (arith, t, n) in
    record {
      count = length-set c.loop-i.ends.items c.loop-i.i c.end_now.result ∙ inv.count;
      told = told_more g.D.Depot.disk c.args.batch.now c.args.depots.now c.loop-i.ends.items c.args.ends.items c.loop-i.i c.end_now.result c.index.result.now inv.count low inv.told inv.rest c.end_now.ensures c.index.ensures;
      rest = rest_more g.D.Depot.disk c.args.batch.now c.args.depots.now c.loop-i.ends.items c.args.ends.items c.loop-i.i c.end_now.result c.index.result.now inv.count low inv.told inv.rest c.end_now.ensures c.index.ensures;
    }
