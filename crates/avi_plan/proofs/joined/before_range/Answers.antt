use Rattle.avi_plan.proofs.Beside.{is_beside}
use Rattle.avi_plan.proofs.joined.before_range.Goals as goal

pub returns-clause-beside : goal.returns-clause-beside
returns-clause-beside c =
    is_beside c.args.at c.args.next c.args.end c.low.j c.high.i c.args.cuts.now c.high.invariant.order c.high.invariant.few c.high.invariant.low c.high.invariant.high c.high-test.false
