use Rattle.std.proofs.Common.{◌+◌, ◌<◌, ◌≤◌, length, refl, subst, arith}
use Rattle.part_tree.specs.declared.why.Why.TheVariants.{Truncated}
use Rattle.part_tree.specs.declared.why.ReadFault.TheVariants.{Why}
use Rattle.container_model.specs.Chunk.{riff}
use Rattle.container_model.proofs.Written.{length-slice}
use Rattle.carrier_model.specs.Info.{list_run}
use Rattle.riff_form.specs.Walk.{chunk_in}
use Rattle.avi_file.specs.declared.kind.Inside.TheVariants.{Further}
use Rattle.avi_file.specs.Walk.{Told, Reads, plain_told, run_told}
use Rattle.avi_file.specs.Forms.{form_told}
use Rattle.avi_file.proofs.Left.{reads_then, reads_fail}
use Rattle.avi_file.proofs.Opened.{open_run}
use Rattle.avi_file.proofs.Formed.{form_read, form_short}
use Rattle.avi_file.proofs.Placed.{keeps_after, ok_then}
use Rattle.avi_file.proofs.form.read_further.Goals as goal

pub returns-then-form-lt4-clause-took : goal.returns-then-form-lt4-clause-took
returns-then-form-lt4-clause-took g c b holds =
    let k = c.args.form.now in
    let this = chunk_in b riff k in
    let whole : k.next ≤ length b = c.requires.inside b holds in
    let order = c.requires.order in
    let few : length this.body < 4 = omega (arith, length-slice b k.body.at k.body.len) in
    reads_fail (form_told k.at this) (run_told (plain_told Further) (k.at + 12) (list_run this)) c.args.reading.now c.args.reading.now c.args.reading.now (Why (Truncated k.at)) (form_short k.at this c.args.reading.now few)

pub returns-clause-took : goal.returns-clause-took
returns-clause-took g c b holds =
    let k = c.args.form.now in
    let this = chunk_in b riff k in
    let whole : k.next ≤ length b = c.requires.inside b holds in
    let order = c.requires.order in
    let inside : k.body.at + k.body.len ≤ length b = omega arith in
    let long : 4 ≤ k.body.len = omega arith in
    let enough : 4 ≤ length this.body = omega (arith, length-slice b k.body.at k.body.len inside) in
    reads_then (form_told k.at this) (run_told (plain_told Further) (k.at + 12) (list_run this)) c.args.reading.now c.args.reading.now c.read_chunks.new.reading c.read_chunks.result (form_read k.at this c.args.reading.now enough)
    (subst (λ (t : Told). Reads t c.args.reading.now c.read_chunks.new.reading c.read_chunks.result) (open_run (plain_told Further) b k long inside order.body) (c.read_chunks.ensures.run b holds))

pub returns-clause-placed : goal.returns-clause-placed
returns-clause-placed g c =
    let k = c.args.form.now in
    let order = c.requires.order in
    let long : 4 ≤ k.body.len = omega arith in
    ok_then c.read_chunks.result (λ h. keeps_after k.at (k.body.at + 4) (k.body.at + k.body.len) (k.body.at + k.body.len) k.next k.next c.args.reading.now.parts.items c.args.reading.now.parts.items c.read_chunks.new.reading.parts.items refl h (omega arith) (omega arith) (omega arith)) c.read_chunks.ensures.placed
