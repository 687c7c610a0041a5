use Rattle.std.proofs.Common.{arith}
use Rattle.mov_plan.proofs.KeyTables.{read_again}
use Rattle.mov_plan.proofs.keys.edit_keys.Goals as goal

pub spell_keys-requires : goal.spell_keys-requires
spell_keys-requires c =
    read_again c.args.changes.now c.args.table.now c.in-Ok.table c.requires.read c.requires.values c.in-Ok.ensures.table c.in-Ok.ensures.bytes (omega (arith, c.table_len-size.ensures, c.if-size-gt-MOST_BYTES.false))
