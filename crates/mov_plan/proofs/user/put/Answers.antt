use Rattle.mov_plan.proofs.Changed.{dropped}
use Rattle.mov_plan.proofs.user.put.Goals as goal

pub returns-in-None : goal.returns-in-None
returns-in-None c = dropped c.args.change.now.kind.0 c.args.change.now.value c.args.items.now.items c.drop_named.new.items.items c.in-None.is c.drop_named.ensures
