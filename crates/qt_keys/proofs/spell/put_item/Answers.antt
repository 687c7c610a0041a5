use Rattle.std.proofs.Common.{◌≡◌, ◌∙◌, ap, subst, arith, length, map, ◌++◌}
use Rattle.std.specs.Prelude.{OnOk}
use Rattle.std.specs.Int.{to_be_bytes, w32}
use Rattle.container_model.specs.Atoms.{atom}
use Rattle.container_model.specs.Chunk.{spell, spell_all}
use Rattle.qt_keys.specs.Table.{value_atom}
use Rattle.qt_keys.proofs.Pieces.{body_below}
use Rattle.qt_keys.proofs.spell.put_item.Goals as goal

pub values_body-requires : goal.values_body-requires
values_body-requires c =
    let i = c.args.item.now in
    omega (arith, c.requires, body_below (to_be_bytes w32 i.index) (spell_all (map value_atom i.values)), ap (λ vs. length (spell_all (map value_atom vs))) c.as_slice.ensures)

pub put_atom-requires : goal.put_atom-requires
put_atom-requires c =
    let i = c.args.item.now in
    omega (arith, c.requires, body_below (to_be_bytes w32 i.index) (spell_all (map value_atom i.values)), ap length (c.deref.ensures.value ∙ c.in_ok-body.ensures ∙ ap (λ vs. spell_all (map value_atom vs)) c.as_slice.ensures))

pub returns : goal.returns
returns c =
    let i = c.args.item.now in
    let body = c.deref.ensures.value ∙ c.in_ok-body.ensures ∙ ap (λ vs. spell_all (map value_atom vs)) c.as_slice.ensures in
    subst (λ b. OnOk c.put_atom.result (c.put_atom.new.out.items ≡ c.args.out.now.items ++ spell (atom (to_be_bytes w32 i.index) b))) body
    (subst (λ k. OnOk c.put_atom.result (c.put_atom.new.out.items ≡ c.args.out.now.items ++ spell (atom k c.deref.result.now))) c.to_be_bytes.ensures c.put_atom.ensures)
