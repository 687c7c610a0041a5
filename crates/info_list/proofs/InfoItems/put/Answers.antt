use Rattle.info_list.proofs.Changed.{dropped}
use Rattle.info_list.proofs.InfoItems.put.Goals as goal

pub returns-in-None-clause-put : goal.returns-in-None-clause-put
returns-in-None-clause-put c = dropped c.args.id.now.0 c.args.value c.args.self.now c.self.inside.held.items c.drop_named.new.items.items c.in-None.is c.self.view_is c.drop_named.ensures.others
