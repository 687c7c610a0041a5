use Rattle.std.proofs.Common.{◌≡◌, ◌≤◌, ◌∙◌, Bool, true, false, length, refl, sym, subst, arith}
use Rattle.std.specs.declared.result.Result.TheVariants.{Ok}
use Rattle.std.specs.Prelude.{codes}
use Rattle.part_tree.specs.declared.part.Role.TheVariants.{Opaque}
use Rattle.container_model.specs.Chunk.{riff}
use Rattle.carrier_model.specs.Info.{is_type}
use Rattle.riff_form.specs.Walk.{chunk_in}
use Rattle.me_disk.proofs.Holds.{holds_on}
use Rattle.avi_file.specs.Walk.{Reads, ReadAll, chunk_told, strl_told}
use Rattle.avi_file.proofs.Left.{stands_in, reads_then, reads_fail, reads_none}
use Rattle.avi_file.proofs.Placed.{keeps_then, ok_then}
use Rattle.avi_file.proofs.hdrl.take_stream.Goals as goal

pub returns-in-Err-clause-took : goal.returns-in-Err-clause-took
returns-in-Err-clause-took g c b holds next =
    let k = c.args.chunk.now in
    let this = chunk_in b riff k in
    let whole : k.next ≤ length b = c.requires.inside b holds in
    let order = c.requires.order in
    reads_fail (chunk_told false Opaque k.at this) (strl_told (is_type (codes "strl") this) k.at this) c.args.reading.now c.put_part.new.reading c.put_part.new.reading c.in-Err.fault (c.in-Err.ensures.took this (stands_in b k (omega arith) next))

pub open_stream-requires-clause-long : goal.open_stream-requires-clause-long
open_stream-requires-clause-long g c = c.in-Ok-true.ensures.long c.in-Ok-true.field-0-test

pub returns-in-Ok-true-clause-took : goal.returns-in-Ok-true-clause-took
returns-in-Ok-true-clause-took g c b holds next =
    let k = c.args.chunk.now in
    let this = chunk_in b riff k in
    let whole : k.next ≤ length b = c.requires.inside b holds in
    let order = c.requires.order in
    let held = holds_on (g.D.Depot.disk c.args.depot.now) (g.D.Depot.disk c.is_list.new.depot) b c.is_list.ensures.reads holds in
    let is : is_type (codes "strl") this ≡ true = sym (c.in-Ok-true.ensures.is b holds) ∙ c.in-Ok-true.field-0-test in
    let one = c.in-Ok.ensures.took this (stands_in b k (omega arith) next) in
    reads_then (chunk_told false Opaque k.at this) (strl_told (is_type (codes "strl") this) k.at this) c.args.reading.now c.put_part.new.reading c.open_stream.new.reading c.open_stream.result one
    (subst (λ (t : Bool). Reads (strl_told t k.at this) c.put_part.new.reading c.open_stream.new.reading c.open_stream.result) (sym is) (c.open_stream.ensures.opened b held))

pub returns-in-Ok-true-clause-placed : goal.returns-in-Ok-true-clause-placed
returns-in-Ok-true-clause-placed g c =
    let k = c.args.chunk.now in
    ok_then c.open_stream.result (λ h. keeps_then k.at k.at k.at k.next k.next k.next k.next c.args.reading.now.parts.items c.put_part.new.reading.parts.items c.open_stream.new.reading.parts.items (c.in-Ok.ensures.inside refl) h (omega arith) (omega arith) (omega arith)) c.open_stream.ensures.placed

pub returns-in-Ok-false-clause-took : goal.returns-in-Ok-false-clause-took
returns-in-Ok-false-clause-took g c b holds next =
    let k = c.args.chunk.now in
    let this = chunk_in b riff k in
    let whole : k.next ≤ length b = c.requires.inside b holds in
    let order = c.requires.order in
    let is : is_type (codes "strl") this ≡ false = sym (c.in-Ok-false.ensures.is b holds) ∙ c.in-Ok-false.field-0-test in
    let one = c.in-Ok.ensures.took this (stands_in b k (omega arith) next) in
    reads_then (chunk_told false Opaque k.at this) (strl_told (is_type (codes "strl") this) k.at this) c.args.reading.now c.put_part.new.reading c.put_part.new.reading (Ok tt) one
    (subst (λ (t : Bool). ReadAll (strl_told t k.at this) c.put_part.new.reading c.put_part.new.reading) (sym is) (reads_none c.put_part.new.reading))
