use Rattle.std.proofs.Common.{ap, arith, length, map, List, ℕ}
use Rattle.container_model.specs.Chunk.{spell_all}
use Rattle.qt_keys.specs.Table.{value_atom}
use Rattle.mov_plan.proofs.KeySizes.{item_length}
use Rattle.mov_plan.proofs.key_len.item_len.Goals as goal

pub returns : goal.returns
returns c = omega (arith, c.atom_len.ensures, c.values_len.ensures, item_length c.args.item.now, ap (λ (vs : List (List ℕ)). length (spell_all (map value_atom vs))) c.as_slice.ensures)
