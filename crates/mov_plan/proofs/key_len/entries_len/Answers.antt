use Rattle.std.proofs.Common.{arith}
use Rattle.container_model.specs.Chunk.{spell}
use Rattle.qt_keys.specs.Table.{entry_atom}
use Rattle.mov_plan.proofs.KeySizes.{atoms_end, len_more}
use Rattle.mov_plan.proofs.key_len.entries_len.Goals as goal

pub entries-preserved : goal.entries-preserved
entries-preserved c = record {
  small = omega (arith, c.saturating_add-len.ensures);
  whole =
      len_more (λ x. spell (entry_atom x)) c.args.entries.now c.entries.entry-index c.entry-item.result c.entries.len c.entry_len.result c.saturating_add-len.result _ c.entry-item.is c.entries-test.true
      c.entry_len.ensures c.saturating_add-len.ensures c.entries.invariant.whole;
}

pub returns : goal.returns
returns c = atoms_end entry_atom c.args.entries.now c.entries.entry-index c.entries.len c.entries-test.false c.entries.invariant.small c.entries.invariant.whole
