use Rattle.std.proofs.Common.{ap, arith, length}
use Rattle.mov_plan.proofs.KeySizes.{atom_length}
use Rattle.mov_plan.proofs.key_len.entry_len.Goals as goal

pub returns : goal.returns
returns c = omega (arith, c.saturating_add.ensures, c.kind_len.ensures.len, atom_length c.args.entry.now.space.0 c.args.entry.now.name, ap length c.as_slice.ensures)
