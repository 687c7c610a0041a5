use Rattle.std.proofs.Common.{arith}
use Rattle.container_model.specs.Chunk.{spell}
use Rattle.qt_keys.specs.Table.{item_atom}
use Rattle.mov_plan.proofs.KeySizes.{atoms_end, len_more}
use Rattle.mov_plan.proofs.key_len.items_len.Goals as goal

pub items-preserved : goal.items-preserved
items-preserved c = record {
  small = omega (arith, c.saturating_add-len.ensures);
  whole =
      len_more (λ x. spell (item_atom x)) c.args.items.now c.items.item-index c.item-item.result c.items.len c.item_len.result c.saturating_add-len.result _ c.item-item.is c.items-test.true
      c.item_len.ensures c.saturating_add-len.ensures c.items.invariant.whole;
}

pub returns : goal.returns
returns c = atoms_end item_atom c.args.items.now c.items.item-index c.items.len c.items-test.false c.items.invariant.small c.items.invariant.whole
