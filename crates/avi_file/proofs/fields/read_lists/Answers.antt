use Rattle.std.proofs.Common.{◌+◌, drop, get_or, length}
use Rattle.std.proofs.lemmas.List.{drop_more, drop_all}
use Rattle.me_disk.proofs.Holds.{holds_on}
use Rattle.me_disk.proofs.Runs.{ReadsOnly-trans}
use Rattle.part_tree.specs.declared.names.Span.{Span}
use Rattle.opendml_index.specs.Checks.{EndInside}
use Rattle.avi_file.specs.Fields.{ListEnds}
use Rattle.avi_file.proofs.Grown.{lists_cut, lists_end, lists_next}
use Rattle.avi_file.proofs.Streamed.{all_get, holds_before}
use Rattle.avi_file.proofs.fields.read_lists.Goals as goal

pub read_list-requires-clause-inside : goal.read_list-requires-clause-inside
read_list-requires-clause-inside g c b held =
    all_get (EndInside (length b)) c.args.lists.now c.lists.list-index _ (c.requires.inside b (holds_before (g.D.Depot.disk c.args.depot.now) (g.D.Depot.disk c.lists.depot) b c.lists.invariant.reads held)) c.lists-test.true

pub returns-in-Err-clause-lists : goal.returns-in-Err-clause-lists
returns-in-Err-clause-lists g c b holds =
    let before = c.lists.invariant in
    let ss = c.args.lists.now in
    let k = c.lists.list-index in
    let zero : Span = record { at = 0; len = 0 } in
    let held = holds_on (g.D.Depot.disk c.args.depot.now) (g.D.Depot.disk c.lists.depot) b before.reads holds in
    lists_cut b ss (get_or ss k zero) c.args.fields.now c.read_list.new.fields c.lists.fields c.read_list.new.fields c.in-Err.fault (λ all. all_get (ListEnds b) ss k zero all c.lists-test.true) (c.in-Err.ensures.list b held)

pub lists-preserved : goal.lists-preserved
lists-preserved g c =
    let before = c.lists.invariant in
    let ss = c.args.lists.now in
    let k = c.lists.list-index in
    let zero : Span = record { at = 0; len = 0 } in
    record {
      reads = ReadsOnly-trans _ _ _ before.reads c.read_list.ensures.reads;
      only = λ old. c.in-Ok.ensures.only (before.only old);
      left = λ b holds.
          let held = holds_on (g.D.Depot.disk c.args.depot.now) (g.D.Depot.disk c.lists.depot) b before.reads holds in
          lists_next b c.args.fields.now c.lists.fields c.read_list.new.fields (drop k ss) (drop (k + 1) ss) ss (get_or ss k zero) (drop_more ss k zero c.lists-test.true) (c.in-Ok.ensures.list b held) (before.left b holds);
    }

pub returns-clause-lists : goal.returns-clause-lists
returns-clause-lists g c b holds =
    let ss = c.args.lists.now in
    let k = c.lists.list-index in
    lists_end b c.args.fields.now c.lists.fields (drop k ss) ss (drop_all k ss c.lists-test.false) (c.lists.invariant.left b holds)
