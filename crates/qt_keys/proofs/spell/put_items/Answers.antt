use Rattle.std.proofs.Common.{◌≡◌, ◌∙◌, ap, subst, arith, length, map, ◌++◌}
use Rattle.std.specs.Prelude.{OnOk, codes}
use Rattle.container_model.specs.Atoms.{atom}
use Rattle.container_model.specs.Chunk.{spell, spell_all}
use Rattle.qt_keys.specs.Table.{item_atom}
use Rattle.qt_keys.proofs.Pieces.{body_below}
use Rattle.qt_keys.proofs.spell.put_items.Goals as goal

pub items_body-requires : goal.items_body-requires
items_body-requires c = omega (arith, c.requires, body_below (codes "ilst") (spell_all (map item_atom c.args.items.now)))

pub put_atom-requires : goal.put_atom-requires
put_atom-requires c =
    omega (arith, c.requires, body_below (codes "ilst") (spell_all (map item_atom c.args.items.now)), ap length (c.deref.ensures.value ∙ c.in_ok-body.ensures))

pub returns : goal.returns
returns c =
    subst (λ b. OnOk c.put_atom.result (c.put_atom.new.out.items ≡ c.args.out.now.items ++ spell (atom (codes "ilst") b))) (c.deref.ensures.value ∙ c.in_ok-body.ensures) c.put_atom.ensures
