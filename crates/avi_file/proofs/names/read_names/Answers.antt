use Rattle.std.proofs.Common.{length}
use Rattle.me_disk.proofs.Holds.{holds_on}
use Rattle.me_disk.proofs.Runs.{ReadsOnly-trans}
use Rattle.part_tree.specs.declared.names.Span.{Span}
use Rattle.opendml_index.specs.Checks.{EndInside}
use Rattle.avi_file.proofs.Named.{name_end, name_next}
use Rattle.avi_file.proofs.Streamed.{all_get, holds_before}
use Rattle.avi_file.proofs.names.read_names.Goals as goal

pub read_name-requires-clause-inside : goal.read_name-requires-clause-inside
read_name-requires-clause-inside g c b held =
    all_get (EndInside (length b)) c.args.names.now c.names.name-index _ (c.requires.inside b (holds_before (g.D.Depot.disk c.args.depot.now) (g.D.Depot.disk c.names.depot) b c.names.invariant.reads held)) c.names-test.true

pub names-preserved : goal.names-preserved
names-preserved g c =
    let before = c.names.invariant in
    let ss = c.args.names.now in
    let zero : Span = record { at = 0; len = 0 } in
    record {
      reads = ReadsOnly-trans _ _ _ before.reads c.read_name.ensures.reads;
      only = λ old. c.in-Ok.ensures.only (before.only old);
      left = λ b holds.
          let held = holds_on (g.D.Depot.disk c.args.depot.now) (g.D.Depot.disk c.names.depot) b before.reads holds in
          name_next b c.args.stream c.args.fields.now c.names.fields c.read_name.new.fields ss ss c.names.name-index zero c.names-test.true (c.in-Ok.ensures.name b held) (before.left b holds);
    }

pub returns-clause-names : goal.returns-clause-names
returns-clause-names g c b holds =
    let ss = c.args.names.now in
    name_end b c.args.stream c.args.fields.now c.names.fields ss ss c.names.name-index c.names-test.false (c.names.invariant.left b holds)
