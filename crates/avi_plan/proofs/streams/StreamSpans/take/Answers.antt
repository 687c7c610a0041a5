use Rattle.std.proofs.Common.{◌≡◌, ◌+◌, List, [], length, true, sym, subst, arith}
use Rattle.std.specs.Prelude.{option_copied}
use Rattle.part_tree.specs.declared.names.Span.{Span}
use Rattle.container_model.specs.Chunk.{spell}
use Rattle.container_model.specs.Items.{listed}
use Rattle.avi_model.specs.Named.{Site, is_named, names_after}
use Rattle.avi_plan.specs.Lists.{behind}
use Rattle.avi_plan.specs.Streams.{IsSite, NameIs, StreamsTold}
use Rattle.avi_plan.proofs.Streamed.{behind_is, is_among, next_there}
use Rattle.avi_plan.proofs.streams.StreamSpans.take.Goals as goal

pub returns-in-Ok-clause-told : goal.returns-in-Ok-clause-told
returns-in-Ok-clause-told g c b e s ss held bytes site name at told =
    let l = c.in-Some-strl_at.list in
    let is = c.in-Some-strl_at.ensures.is in
    let named : (is_named e s.stream ≡ true) × (names_after e s.stream [] ≡ listed c.in-Some.name.now.body) = subst (λ o. NameIs e s.stream (option_copied o)) c.in-Some.is name in
    let same : behind l ≡ c.args.strl = behind_is l c.args.strl is.0 is.1 in
    let there : IsSite b c.args.end c.args.len (behind l) s = subst (λ (x : Span). IsSite b c.args.end c.args.len x s) (sym same) site in
    let next : l.next ≡ s.at + length (spell s.chunk) = next_there b c.args.end c.args.len c.args.strl l s site is.2 in
    let put = c.in-Ok.ensures.told b e c.args.end s ss held bytes there next named.1 told in
    (subst (λ (z : List Site). StreamsTold b e z c.put.new.self) (is_among e s ss named.0) put, omega (arith, c.in-Ok.ensures.at, next))
