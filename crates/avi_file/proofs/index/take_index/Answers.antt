use Rattle.std.proofs.Common.{◌≡◌, ◌∙◌, ◌+◌, ◌-◌, ◌≤◌, ◌++◌, ◌∷◌, [], length, ap}
use Rattle.std.specs.declared.result.Result.TheVariants.{Ok}
use Rattle.me_disk.proofs.Holds.{holds_on}
use Rattle.opendml_index.specs.Kinds.{is_index_kind}
use Rattle.avi_file.specs.declared.index.IndexChunk.{IndexChunk}
use Rattle.avi_file.specs.declared.index.Indexes.{Indexes}
use Rattle.avi_file.specs.Indexes.{kept_in, kept_of, table_at}
use Rattle.avi_file.proofs.Held.{kind_from}
use Rattle.avi_file.proofs.Streamed.{standard_none, stream_fails, stream_kept, stream_took, super_named}
use Rattle.avi_file.proofs.index.take_index.Goals as goal

pub returns-in-Err-clause-took : goal.returns-in-Err-clause-took
returns-in-Err-clause-took g c b holds =
    let t = table_at b c.args.body in
    stream_fails c.args.movis.now b t (kept_of t ∷ []) (kept_in b t) c.args.indexes.now c.args.indexes.now c.in-Err.fault (c.in-Err.ensures.head b holds)

pub returns-then-head-clause-took : goal.returns-then-head-clause-took
returns-then-head-clause-took g c b holds =
    let t = table_at b c.args.body in
    let inside : c.args.body.at + c.args.body.len ≤ length b = c.requires.body b holds in
    let head = c.in-Ok.ensures.head b holds in
    let new : Indexes = record { streams = c.push.new.self; named = c.args.indexes.now.named } in
    let same : new.streams.items ≡ c.args.indexes.now.streams.items ++ kept_of t ∷ [] = c.in-Ok-push.ensures.items ∙ ap (λ (x : IndexChunk). c.args.indexes.now.streams.items ++ x ∷ []) (stream_kept b c.args.body c.in-Ok.head inside head.1) in
    stream_took c.args.movis.now b t (kept_of t ∷ []) c.args.indexes.now new (Ok tt) head.0 same (standard_none c.args.movis.now b t c.in-Ok.head c.args.indexes.now.named.items head.1 c.if-head.true)

pub returns-clause-took : goal.returns-clause-took
returns-clause-took g c b holds =
    let t = table_at b c.args.body in
    let inside : c.args.body.at + c.args.body.len ≤ length b = c.requires.body b holds in
    let head = c.in-Ok.ensures.head b holds in
    let held = holds_on (g.D.Depot.disk c.args.depot.now) (g.D.Depot.disk c.read_index.new.depot) b c.read_index.ensures.reads holds in
    let new : Indexes = record { streams = c.push.new.self; named = c.take_all_named.new.named } in
    let same : new.streams.items ≡ c.args.indexes.now.streams.items ++ kept_of t ∷ [] = c.in-Ok-push.ensures.items ∙ ap (λ (x : IndexChunk). c.args.indexes.now.streams.items ++ x ∷ []) (stream_kept b c.args.body c.in-Ok.head inside head.1) in
    stream_took c.args.movis.now b t (kept_of t ∷ []) c.args.indexes.now new c.take_all_named.result head.0 same
    (super_named c.args.movis.now b t c.in-Ok.head c.args.indexes.now.named.items c.take_all_named.new.named.items c.take_all_named.result head.1 (kind_from is_index_kind (t.at - 8) t.body head.0) c.if-head.false (c.take_all_named.ensures.took b held))
