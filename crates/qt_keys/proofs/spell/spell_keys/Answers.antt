use Rattle.std.proofs.Common.{ap, arith, length}
use Rattle.std.specs.List.{flat_map}
use Rattle.qt_keys.specs.Table.{child_bytes, table_bytes}
use Rattle.qt_keys.proofs.Pieces.{one_below}
use Rattle.qt_keys.proofs.Whole.{small_table}
use Rattle.qt_keys.proofs.spell.spell_keys.Goals as goal

pub put_child-requires : goal.put_child-requires
put_child-requires c =
    let x = c.child-item.result in
    let cs = c.as_slice-child-items.result.now in
    let one = one_below child_bytes cs c.loop-child.child-index x x c.child-item.is (omega arith) in
    omega (arith, one, ap (λ xs. length (flat_map child_bytes xs)) c.as_slice-child-items.ensures, small_table (table_bytes c.args.table.now) c.args.table.now c.requires.read)
