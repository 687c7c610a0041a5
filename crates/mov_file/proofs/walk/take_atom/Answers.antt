use Rattle.std.proofs.Common.{arith, sym, ◌∙◌}
use Rattle.container_model.specs.Walk.{chunk_at}
use Rattle.container_model.proofs.Windows.{length_slice}
use Rattle.qt_atoms.specs.Walk.{atom_in}
use Rattle.mov_file.specs.Holder.{place_of}
use Rattle.mov_file.proofs.Walks.{stands, step_walked}
use Rattle.mov_file.proofs.walk.take_atom.Goals as goal

pub returns-in-Ok-clause-took : goal.returns-in-Ok-clause-took
returns-in-Ok-clause-took g c = λ b before holds place knows.
    let k = c.args.atom.now in
    let this = atom_in b k in
    let len = length_slice b k.body.at k.body.len (omega (arith, c.requires.inside b holds, c.requires.order.behind, c.requires.order.last)) in
    step_walked before (chunk_at (place_of c.args.holder) k.at this) _ c.args.reading.now c.remember.new.reading
    (sym (sym c.in-Ok-None.field-0-is ∙ c.in-Ok-None.ensures.why b before holds place knows)) (c.in-Ok.ensures.remembers this before (stands b k k.next c.requires.order len place) knows)
