use Rattle.std.proofs.Common.{map}
use Rattle.mov_plan.specs.Users.{CanSet, chunk_of}
use Rattle.mov_plan.proofs.Changed.{can_at, put_end, put_more}
use Rattle.mov_plan.proofs.user.put_changes.Goals as goal

pub put-requires : goal.put-requires
put-requires c = can_at CanSet c.args.changes.now c.changes.change-index c.change-item.result c.changes-test.true c.change-item.is c.requires

pub changes-preserved : goal.changes-preserved
changes-preserved c =
    put_more c.args.changes.now c.changes.change-index c.change-item.result (map chunk_of c.changes.items.items) (map chunk_of c.put.new.items.items) _ c.changes-test.true c.change-item.is c.in_ok-put.ensures c.changes.invariant

pub returns : goal.returns
returns c = put_end c.args.changes.now c.changes.change-index (map chunk_of c.changes.items.items) _ c.changes-test.false c.changes.invariant
