use Rattle.std.proofs.Common.{◌≡◌, ◌+◌, ◌≤◌, length, subst, arith}
use Rattle.part_tree.specs.declared.names.Span.{Span}
use Rattle.container_model.specs.Chunk.{riff}
use Rattle.container_model.specs.Stood.{bare}
use Rattle.carrier_model.specs.Info.{list_run}
use Rattle.riff_form.specs.Walk.{chunk_in}
use Rattle.avi_file.specs.declared.kind.Inside.TheVariants.{Stream}
use Rattle.avi_file.specs.Walk.{Told, Reads, ReadAll, behind_type, list_told, plain_told, run_told}
use Rattle.avi_file.proofs.Left.{reads_then}
use Rattle.avi_file.proofs.Opened.{open_run, behind_is}
use Rattle.avi_file.proofs.Placed.{keeps_after, ok_then}
use Rattle.avi_file.proofs.hdrl.open_stream.Goals as goal

pub returns-clause-opened : goal.returns-clause-opened
returns-clause-opened g c b holds =
    let k = c.args.chunk.now in
    let this = chunk_in b riff k in
    let whole : k.next ≤ length b = c.requires.inside b holds in
    let order = c.requires.order in
    let inside : k.body.at + k.body.len ≤ length b = omega arith in
    let place : k.body.at ≡ k.at + 8 = order.body in
    let one : ReadAll (list_told (behind_type (record { at = k.at; chunk = bare this }))) c.args.reading.now c.put_stream.new.reading =
    subst (λ (s : Span). ReadAll (list_told s) c.args.reading.now c.put_stream.new.reading) (behind_is b k inside place) c.in-Ok.ensures.took in
    reads_then (list_told (behind_type (record { at = k.at; chunk = bare this }))) (run_told (plain_told Stream) (k.at + 12) (list_run this)) c.args.reading.now c.put_stream.new.reading c.read_chunks.new.reading c.read_chunks.result one
    (subst (λ (t : Told). Reads t c.put_stream.new.reading c.read_chunks.new.reading c.read_chunks.result) (open_run (plain_told Stream) b k c.requires.long inside place) (c.read_chunks.ensures.run b holds))

pub returns-clause-placed : goal.returns-clause-placed
returns-clause-placed g c =
    let k = c.args.chunk.now in
    let order = c.requires.order in
    ok_then c.read_chunks.result (λ h. keeps_after k.at (k.body.at + 4) (k.body.at + k.body.len) (k.body.at + k.body.len) k.next k.next c.args.reading.now.parts.items c.put_stream.new.reading.parts.items c.read_chunks.new.reading.parts.items c.put_stream.ensures.parts h (omega arith) (omega arith) (omega arith)) c.read_chunks.ensures.placed
