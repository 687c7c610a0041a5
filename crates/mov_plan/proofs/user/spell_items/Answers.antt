use Rattle.std.proofs.Common.{◌^◌}
use Rattle.mov_plan.proofs.Items.{item_small, spelled_end, spelled_next}
use Rattle.mov_plan.proofs.user.spell_items.Goals as goal

pub put_atom-requires : goal.put_atom-requires
put_atom-requires c = item_small c.args.items.now c.items.item-index c.item-item.result (2 ^ 24) c.item-item.is c.items-test.true c.requires

pub items-preserved : goal.items-preserved
items-preserved c = spelled_next c.args.items.now c.items.item-index c.item-item.result c.items.out.items c.put_atom.new.out.items _ c.item-item.is c.items-test.true c.in_ok-put_atom.ensures c.items.invariant

pub returns : goal.returns
returns c = spelled_end c.args.items.now c.items.item-index c.items.out.items _ c.items-test.false c.items.invariant
