use Rattle.std.proofs.Common.{◌≡◌, ◌∙◌, ap, subst, arith, length, map, ◌++◌}
use Rattle.std.specs.Prelude.{OnOk, codes}
use Rattle.std.specs.Int.{to_be_bytes, w32}
use Rattle.std.proofs.lemmas.List.{length-append}
use Rattle.container_model.specs.Atoms.{atom}
use Rattle.container_model.specs.Chunk.{spell, spell_all}
use Rattle.qt_keys.specs.Table.{entry_atom}
use Rattle.qt_keys.proofs.Pieces.{body_below}
use Rattle.qt_keys.proofs.spell.put_keys.Goals as goal

pub keys_body-requires : goal.keys_body-requires
keys_body-requires c =
    let es = spell_all (map entry_atom c.args.entries.now) in
    let count = to_be_bytes w32 (length c.args.entries.now) in
    let head = to_be_bytes w32 c.args.head in
    omega (arith, c.requires, body_below (codes "keys") (head ++ (count ++ es)), length-append head (count ++ es), length-append count es)

pub put_atom-requires : goal.put_atom-requires
put_atom-requires c =
    let whole = to_be_bytes w32 c.args.head ++ (to_be_bytes w32 (length c.args.entries.now) ++ spell_all (map entry_atom c.args.entries.now)) in
    omega (arith, c.requires, body_below (codes "keys") whole, ap length (c.deref.ensures.value ∙ c.in_ok-body.ensures))

pub returns : goal.returns
returns c =
    subst (λ b. OnOk c.put_atom.result (c.put_atom.new.out.items ≡ c.args.out.now.items ++ spell (atom (codes "keys") b))) (c.deref.ensures.value ∙ c.in_ok-body.ensures) c.put_atom.ensures
