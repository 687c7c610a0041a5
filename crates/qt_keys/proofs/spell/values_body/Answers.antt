use Rattle.std.proofs.Common.{◌∙◌, ap, arith, length, sym}
use Rattle.std.specs.Prelude.{codes}
use Rattle.container_model.specs.Chunk.{spell}
use Rattle.qt_keys.specs.Table.{value_atom}
use Rattle.qt_keys.proofs.Pieces.{body_below, one_below, put_end, spelled_pieces}
use Rattle.qt_keys.proofs.spell.values_body.Goals as goal

pub put_atom-requires : goal.put_atom-requires
put_atom-requires c =
    let v = c.value-item.result in
    let one = one_below (λ v. spell (value_atom v)) c.args.values.now c.loop-value.value-index v v c.value-item.is (omega arith) in
    omega (arith, one, body_below (codes "data") v, ap length (spelled_pieces value_atom c.args.values.now), ap length c.as_slice.ensures, c.requires)

pub returns : goal.returns
returns c =
    put_end (λ v. spell (value_atom v)) c.args.values.now c.loop-value.value-index c.loop-value.body.items _ (omega arith) c.loop-value.invariant ∙ sym (spelled_pieces value_atom c.args.values.now)
