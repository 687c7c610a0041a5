use Rattle.std.proofs.Common.{ap, arith, length}
use Rattle.container_model.specs.Chunk.{spell}
use Rattle.qt_keys.specs.Table.{value_atom}
use Rattle.mov_plan.proofs.KeySizes.{atoms_end, len_more, value_length}
use Rattle.mov_plan.proofs.key_len.values_len.Goals as goal

pub values-preserved : goal.values-preserved
values-preserved c = record {
  small = omega (arith, c.saturating_add-len.ensures);
  whole =
      len_more (λ x. spell (value_atom x)) c.args.values.now c.values.value-index c.value-item.result c.values.len c.atom_len.result c.saturating_add-len.result _ c.value-item.is c.values-test.true
      (omega (arith, c.atom_len.ensures, value_length c.value-item.result, ap length c.as_slice.ensures)) c.saturating_add-len.ensures c.values.invariant.whole;
}

pub returns : goal.returns
returns c = atoms_end value_atom c.args.values.now c.values.value-index c.values.len c.values-test.false c.values.invariant.small c.values.invariant.whole
