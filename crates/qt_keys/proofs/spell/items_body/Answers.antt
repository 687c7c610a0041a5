use Rattle.std.proofs.Common.{◌∙◌, ◌≤◌, ◌^◌, ap, arith, length, sym}
use Rattle.container_model.specs.Chunk.{spell}
use Rattle.qt_keys.specs.Table.{item_atom}
use Rattle.qt_keys.proofs.Pieces.{one_below, put_end, spelled_pieces}
use Rattle.qt_keys.proofs.spell.items_body.Goals as goal

pub put_item-requires : goal.put_item-requires
put_item-requires c =
    let i = c.item-item.result in
    let one = one_below (λ i. spell (item_atom i)) c.args.items.now c.loop-item.item-index i i c.item-item.is (omega arith) in
    let fits : length (spell (item_atom i)) ≤ 2 ^ 24 = omega (arith, one, ap length (spelled_pieces item_atom c.args.items.now), c.requires) in
    fits

pub returns : goal.returns
returns c =
    put_end (λ i. spell (item_atom i)) c.args.items.now c.loop-item.item-index c.loop-item.body.items _ (omega arith) c.loop-item.invariant ∙ sym (spelled_pieces item_atom c.args.items.now)
