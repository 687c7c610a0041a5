use Rattle.std.proofs.Common.{◌∙◌, ap, append_assoc, arith, length, map, sym, ◌++◌}
use Rattle.std.specs.Int.{to_be_bytes, w32}
use Rattle.container_model.specs.Chunk.{spell, spell_all}
use Rattle.qt_keys.specs.Table.{entry_atom}
use Rattle.qt_keys.proofs.Pieces.{body_below, count_below, one_below, put_end, spelled_pieces}
use Rattle.qt_keys.proofs.spell.keys_body.Goals as goal

pub overflow_cast-entries : goal.overflow_cast-entries
overflow_cast-entries c = omega (arith, count_below entry_atom c.args.entries.now, c.requires)

pub put_atom-requires : goal.put_atom-requires
put_atom-requires c =
    let e = c.entry-item.result in
    let one = one_below (λ e. spell (entry_atom e)) c.args.entries.now c.loop-entry.entry-index e e c.entry-item.is (omega arith) in
    omega (arith, one, body_below e.space.0 e.name, ap length (spelled_pieces entry_atom c.args.entries.now), ap length c.as_slice.ensures, c.requires)

pub returns : goal.returns
returns c =
    put_end (λ e. spell (entry_atom e)) c.args.entries.now c.loop-entry.entry-index c.loop-entry.body.items _ (omega arith) c.loop-entry.invariant
    ∙ ap (λ b. (to_be_bytes w32 c.args.head ++ to_be_bytes w32 (length c.args.entries.now)) ++ b) (sym (spelled_pieces entry_atom c.args.entries.now))
    ∙ append_assoc (to_be_bytes w32 c.args.head) (to_be_bytes w32 (length c.args.entries.now)) (spell_all (map entry_atom c.args.entries.now))
