use Rattle.std.proofs.Common.{◌≡◌, ◌∙◌, ◌+◌, ℕ, suc, true, List, drop, get_or, refl, sym, ap, subst, arith}
use Rattle.std.specs.Prelude.{option_copied}
use Rattle.std.proofs.lemmas.List.{drop_all, drop_more}
use Rattle.me_disk.proofs.Holds.{holds_on}
use Rattle.me_disk.proofs.Runs.{ReadsOnly-refl, ReadsOnly-trans}
use Rattle.part_tree.specs.declared.names.Span.{Span}
use Rattle.container_model.specs.Chunk.{ends}
use Rattle.avi_names.specs.Names.{chunks_of}
use Rattle.avi_plan.specs.Streams.{NameIs, named_among, told}
use Rattle.avi_plan.specs.declared.streams.StreamSpans.{StreamSpans}
use Rattle.avi_plan.proofs.Streamed.{SitesLeft, all_get, holds_before, next_site, no_site, sites_start, start_inside}
use Rattle.avi_plan.proofs.streams.streams_spans.Goals as goal

pub streams-init : goal.streams-init
streams-init g c =
    let h = c.args.hdrl in
    let found : StreamSpans = record { cuts = c.new.result; fits = true; was = 0; now = 0; at = h.at + 4 } in
    record {
      reads = ReadsOnly-refl (g.D.Depot.disk c.args.depot.now);
      number = refl;
      end = refl;
      inside = start_inside (h.at + 4) (h.at + h.len) c.args.len found c.new.ensures.items refl (omega (arith, c.requires.typed));
      left = λ b ss held bytes sites. sites_start b (told c.args.names.now) (h.at + h.len) c.args.len (h.at + 4) c.args.streams.now ss found c.new.ensures.items refl refl refl refl sites;
    }

pub take-requires-clause-inside : goal.take-requires-clause-inside
take-requires-clause-inside g c b held = c.requires.inside b (holds_before (g.D.Depot.disk c.args.depot.now) (g.D.Depot.disk c.streams.depot) b c.streams.invariant.reads held)

pub take-requires-clause-order : goal.take-requires-clause-order
take-requires-clause-order g c = c.streams.invariant.inside.inside

pub take-requires-clause-whole : goal.take-requires-clause-whole
take-requires-clause-whole g c b held =
    all_get (λ (x : Span). (chunks_of b x).stop ≡ ends) c.args.streams.now c.streams.strl-index _
    (c.requires.whole b (holds_before (g.D.Depot.disk c.args.depot.now) (g.D.Depot.disk c.streams.depot) b c.streams.invariant.reads held)) c.streams-test.true

pub streams-preserved : goal.streams-preserved
streams-preserved g c =
    let before = c.streams.invariant in
    let h = c.args.hdrl in
    let k = c.streams.strl-index in
    let zero : Span = record { at = 0; len = 0 } in
    record {
      reads = ReadsOnly-trans _ _ _ before.reads c.take.ensures.reads;
      number = ap (λ (n : ℕ). n + 1) before.number;
      end = refl;
      inside = c.in-Ok.ensures.inside (h.at + 4) before.inside;
      left = λ b ss holds bytes sites.
          let held = holds_on (g.D.Depot.disk c.args.depot.now) (g.D.Depot.disk c.streams.depot) b before.reads holds in
          let left = subst (λ (xs : List Span). SitesLeft b (told c.args.names.now) (h.at + h.len) c.args.len k xs ss c.streams.found) (drop_more c.args.streams.now k zero c.streams-test.true) (before.left b ss holds bytes sites) in
          let next = next_site b (told c.args.names.now) (h.at + h.len) c.args.len k (get_or c.args.streams.now k zero) (drop (k + 1) c.args.streams.now) ss c.streams.found left in
          let name = subst (λ (n : ℕ). NameIs (told c.args.names.now) n (option_copied c.name_of-name.result)) (before.number ∙ sym next.number) c.name_of-name.ensures in
          let took = c.in-Ok.ensures.told b (told c.args.names.now) next.site (named_among (told c.args.names.now) next.done) held bytes next.is name next.at next.told in
          let number : suc k ≡ k + 1 = omega arith in
          subst (λ (m : ℕ). SitesLeft b (told c.args.names.now) (h.at + h.len) c.args.len m (drop (k + 1) c.args.streams.now) ss c.take.new.self) number (next.then c.take.new.self took.0 took.1);
    }

pub returns-clause-told : goal.returns-clause-told
returns-clause-told g c b ss held bytes sites =
    let h = c.args.hdrl in
    no_site b (told c.args.names.now) (h.at + h.len) c.args.len c.streams.strl-index ss c.streams.found
    (subst (λ (xs : List Span). SitesLeft b (told c.args.names.now) (h.at + h.len) c.args.len c.streams.strl-index xs ss c.streams.found) (drop_all c.streams.strl-index c.args.streams.now c.streams-test.false) (c.streams.invariant.left b ss held bytes sites))
