use Rattle.info_list.proofs.Changed.{mark_here}
use Rattle.info_list.proofs.InfoList.has_item.Goals as goal

pub returns : goal.returns
returns c = mark_here c.args.id.now.0 c.args.self.now.items c.as_slice-items.result.now c.first_named.result c.as_slice-items.ensures c.first_named.ensures.place
