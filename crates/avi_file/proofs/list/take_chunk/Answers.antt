use Rattle.std.proofs.Common.{◌≡◌, ◌∙◌, ◌≤◌, Bool, false, length, ap, subst, arith}
use Rattle.part_tree.specs.declared.part.Role.{Role}
use Rattle.container_model.specs.Chunk.{riff}
use Rattle.riff_form.specs.Walk.{chunk_in}
use Rattle.avi_file.specs.Walk.{Reads, carries, chunk_told, role_of}
use Rattle.avi_file.proofs.Left.{stands_in}
use Rattle.avi_file.proofs.list.take_chunk.Goals as goal

pub returns-clause-took : goal.returns-clause-took
returns-clause-took g c b holds next =
    let k = c.args.chunk.now in
    let this = chunk_in b riff k in
    let inside : k.next ≤ length b = c.requires.inside b holds in
    let order = c.requires.order in
    let role : c.in-Ok.role ≡ role_of c.args.inside this = c.in-Ok.ensures.role b holds in
    let took = c.put_part.ensures.took this (stands_in b k (omega arith) next) in
    subst (λ (r : Role). Reads (chunk_told (carries c.args.inside this) r k.at this) c.args.reading.now c.put_part.new.reading c.put_part.result) role
    (subst (λ (t : Bool). Reads (chunk_told t c.in-Ok.role k.at this) c.args.reading.now c.put_part.new.reading c.put_part.result) (c.is_carrier.ensures b) took)
