use Rattle.info_list.proofs.Items.{read_small, spelled_next}
use Rattle.info_list.proofs.list_body.Goals as goal

pub put_item-requires : goal.put_item-requires
put_item-requires c = read_small c.args.list.now c.as_slice-item-items.result.now c.loop-item.item-index c.item-item.result c.requires c.as_slice-item-items.ensures c.item-item.is c.loop-item-test.true

pub loop-item-preserved : goal.loop-item-preserved
loop-item-preserved c =
    spelled_next c.args.list.now.items c.as_slice-item-items.result.now c.loop-item.item-index c.item-item.result c.loop-item.body.items c.put_item.new.out.items _
    c.as_slice-item-items.ensures c.item-item.is c.loop-item-test.true c.in_ok-put_item.ensures c.loop-item.invariant
