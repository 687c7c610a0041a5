use Rattle.std.proofs.Common.{◌≡◌, ◌≤◌, ℕ, length, get_or, subst, arith}
use Rattle.me_disk.proofs.Holds.{holds_on}
use Rattle.me_disk.proofs.Runs.{ReadsOnly-trans}
use Rattle.part_tree.specs.declared.names.Span.{Span}
use Rattle.container_model.specs.Chunk.{ends}
use Rattle.opendml_index.specs.Checks.{EndInside}
use Rattle.avi_names.specs.Names.{chunks_of}
use Rattle.info_list.specs.Fields.{Grows}
use Rattle.avi_file.specs.Names.{names_at, stream_held}
use Rattle.avi_file.proofs.Named.{stream_end, stream_next}
use Rattle.avi_file.proofs.Streamed.{all_get, holds_before}
use Rattle.avi_file.proofs.names.read_streams.Goals as goal

pub read_stream-requires-clause-inside : goal.read_stream-requires-clause-inside
read_stream-requires-clause-inside g c b held = c.requires.inside b (holds_before (g.D.Depot.disk c.args.depot.now) (g.D.Depot.disk c.strls.depot) b c.strls.invariant.reads held)

pub read_stream-requires-clause-whole : goal.read_stream-requires-clause-whole
read_stream-requires-clause-whole g c b held =
    all_get (λ s. (chunks_of b s).stop ≡ ends) c.args.strls.now c.strls.strl-index _ (c.requires.whole b (holds_before (g.D.Depot.disk c.args.depot.now) (g.D.Depot.disk c.strls.depot) b c.strls.invariant.reads held)) c.strls-test.true

pub strls-preserved : goal.strls-preserved
strls-preserved g c =
    let before = c.strls.invariant in
    let ss = c.args.strls.now in
    let k = c.strls.strl-index in
    let zero : Span = record { at = 0; len = 0 } in
    record {
      reads = ReadsOnly-trans _ _ _ before.reads c.read_stream.ensures.reads;
      only = λ old. c.in-Ok.ensures.only (before.only old);
      number = λ b holds. omega (arith, c.saturating_add-stream.ensures, before.number b holds, c.requires.few b holds, c.strls-test.true);
      left = λ b holds.
          let held = holds_on (g.D.Depot.disk c.args.depot.now) (g.D.Depot.disk c.strls.depot) b before.reads holds in
          let inside : EndInside c.args.end (get_or ss k zero) = all_get (EndInside c.args.end) ss k zero (c.requires.lists b holds) c.strls-test.true in
          let grown : Grows c.strls.fields c.read_stream.new.fields (stream_held k (names_at b (get_or ss k zero)))
          = subst (λ (n : ℕ). Grows c.strls.fields c.read_stream.new.fields (stream_held n (names_at b (get_or ss k zero)))) (before.number b holds) (c.in-Ok.ensures.names b held inside) in
          stream_next b c.args.fields.now c.strls.fields c.read_stream.new.fields ss ss k zero c.strls-test.true grown (before.left b holds);
    }

pub returns-clause-names : goal.returns-clause-names
returns-clause-names g c b holds =
    let ss = c.args.strls.now in
    stream_end b c.args.fields.now c.strls.fields ss ss c.strls.strl-index c.strls-test.false (c.strls.invariant.left b holds)
