use Rattle.std.proofs.Common.{arith}
use Rattle.qt_keys.specs.Table.{child_bytes}
use Rattle.mov_plan.proofs.KeySizes.{len_end, len_more}
use Rattle.mov_plan.proofs.key_len.table_len.Goals as goal

pub children-preserved : goal.children-preserved
children-preserved c = record {
  small = omega (arith, c.saturating_add-len.ensures);
  whole =
      len_more child_bytes c.as_slice-child-items.result.now c.children.child-index c.child-item.result c.children.len c.child_len.result c.saturating_add-len.result _ c.child-item.is c.children-test.true
      c.child_len.ensures c.saturating_add-len.ensures c.children.invariant.whole;
}

pub returns : goal.returns
returns c = len_end child_bytes c.as_slice-child-items.result.now c.children.child-index c.children.len _ c.children-test.false c.children.invariant.small c.children.invariant.whole
