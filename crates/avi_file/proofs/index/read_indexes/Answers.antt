use Rattle.std.proofs.Common.{◌≡◌, ◌∙◌, ◌+◌, ◌++◌, ◌∷◌, [], List, get_or, length, drop, arith, sym, ap, append_assoc}
use Rattle.std.proofs.lemmas.List.{append-nil, drop_more, drop_all}
use Rattle.me_disk.proofs.Holds.{holds_on}
use Rattle.me_disk.proofs.Runs.{ReadsOnly-trans}
use Rattle.part_tree.specs.declared.names.Span.{Span}
use Rattle.opendml_index.specs.Checks.{EndInside}
use Rattle.avi_file.specs.declared.index.IndexChunk.{IndexChunk}
use Rattle.avi_file.specs.Indexes.{all_tests, index_tests, kept_in, kept_of, named_kept, streams_kept, table_at}
use Rattle.avi_file.proofs.Lined.{named_more, named_cut, named_end}
use Rattle.avi_file.proofs.Streamed.{all_fail, all_few, all_get, all_many, as_fault, as_named, holds_before}
use Rattle.avi_file.proofs.index.read_indexes.Goals as goal

pub take_index-requires-clause-body : goal.take_index-requires-clause-body
take_index-requires-clause-body g c b held =
    let before = c.indexes.invariant in
    all_get (EndInside (length b)) c.args.bodies.now c.indexes.body-index _ (c.requires.bodies b (holds_before (g.D.Depot.disk c.args.depot.now) (g.D.Depot.disk c.indexes.depot) b before.reads held)) c.indexes-test.true

pub returns-in-Err-clause-indexes : goal.returns-in-Err-clause-indexes
returns-in-Err-clause-indexes g c b holds =
    let before = c.indexes.invariant in
    let ss = c.args.bodies.now in
    let k = c.indexes.body-index in
    let zero : Span = record { at = 0; len = 0 } in
    let s = get_or ss k zero in
    let held = holds_on (g.D.Depot.disk c.args.depot.now) (g.D.Depot.disk c.indexes.depot) b before.reads holds in
    let split = drop_more ss k zero c.indexes-test.true in
    all_fail c.args.movis.now b ss (named_kept b ss) [] c.take_index.new.indexes.named.items c.in-Err.fault
    (named_cut (all_tests c.args.movis.now b ss) (all_tests c.args.movis.now b (drop k ss)) (all_tests c.args.movis.now b (drop (k + 1) ss)) (index_tests c.args.movis.now b (table_at b s)) (named_kept b ss) (named_kept b (drop k ss)) (kept_in b (table_at b s)) []
    c.indexes.indexes.named.items c.take_index.new.indexes.named.items c.in-Err.fault (before.left b holds) (ap (all_tests c.args.movis.now b) split)
    (as_fault (index_tests c.args.movis.now b (table_at b s)) (kept_of (table_at b s) ∷ []) (kept_in b (table_at b s)) c.indexes.indexes c.take_index.new.indexes c.in-Err.fault (c.in-Err.ensures.took b held)))

pub indexes-preserved : goal.indexes-preserved
indexes-preserved g c =
    let before = c.indexes.invariant in
    let ss = c.args.bodies.now in
    let k = c.indexes.body-index in
    let zero : Span = record { at = 0; len = 0 } in
    let s = get_or ss k zero in
    let split = drop_more ss k zero c.indexes-test.true in
    record {
      reads = ReadsOnly-trans _ _ _ before.reads c.take_index.ensures.reads;
      streams = λ b holds.
          let held = holds_on (g.D.Depot.disk c.args.depot.now) (g.D.Depot.disk c.indexes.depot) b before.reads holds in
          let took = c.in-Ok.ensures.took b held in
          ap (λ (x : List IndexChunk). x ++ streams_kept b (drop (k + 1) ss)) took.1 ∙ append_assoc c.indexes.indexes.streams.items (kept_of (table_at b s) ∷ []) (streams_kept b (drop (k + 1) ss))
          ∙ ap (λ (x : List Span). c.indexes.indexes.streams.items ++ streams_kept b x) (sym split) ∙ before.streams b holds;
      sound = c.take_index.ensures.streams before.sound;
      sound_named = c.take_index.ensures.named before.sound_named;
      left = λ b holds.
          let held = holds_on (g.D.Depot.disk c.args.depot.now) (g.D.Depot.disk c.indexes.depot) b before.reads holds in
          let took = c.in-Ok.ensures.took b held in
          named_more (all_tests c.args.movis.now b ss) (all_tests c.args.movis.now b (drop k ss)) (all_tests c.args.movis.now b (drop (k + 1) ss)) (index_tests c.args.movis.now b (table_at b s)) (named_kept b ss) (named_kept b (drop k ss)) (named_kept b (drop (k + 1) ss))
          (kept_in b (table_at b s)) [] c.indexes.indexes.named.items c.take_index.new.indexes.named.items (before.left b holds) (ap (all_tests c.args.movis.now b) split) (ap (named_kept b) split)
          (as_named (index_tests c.args.movis.now b (table_at b s)) (kept_of (table_at b s) ∷ []) (kept_in b (table_at b s)) c.indexes.indexes c.take_index.new.indexes took);
    }

pub returns-then-len-gt-MOST_CHUNKS-clause-indexes : goal.returns-then-len-gt-MOST_CHUNKS-clause-indexes
returns-then-len-gt-MOST_CHUNKS-clause-indexes g c b holds =
    let before = c.indexes.invariant in
    let ss = c.args.bodies.now in
    let k = c.indexes.body-index in
    let none : drop k ss ≡ [] = drop_all k ss c.indexes-test.false in
    let streams = sym (append-nil c.indexes.indexes.streams.items) ∙ ap (λ (x : List Span). c.indexes.indexes.streams.items ++ streams_kept b x) (sym none) ∙ before.streams b holds in
    let all = named_end (all_tests c.args.movis.now b ss) (all_tests c.args.movis.now b (drop k ss)) (named_kept b ss) (named_kept b (drop k ss)) [] c.indexes.indexes.named.items (before.left b holds) (ap (all_tests c.args.movis.now b) none) (ap (named_kept b) none) in
    all_many c.args.movis.now b ss c.indexes.indexes.streams.items c.indexes.indexes.named.items streams all (omega (arith, c.if-len-gt-MOST_CHUNKS.true, c.len.ensures, c.len-2.ensures))

pub returns-clause-indexes : goal.returns-clause-indexes
returns-clause-indexes g c b holds =
    let before = c.indexes.invariant in
    let ss = c.args.bodies.now in
    let k = c.indexes.body-index in
    let none : drop k ss ≡ [] = drop_all k ss c.indexes-test.false in
    let streams = sym (append-nil c.indexes.indexes.streams.items) ∙ ap (λ (x : List Span). c.indexes.indexes.streams.items ++ streams_kept b x) (sym none) ∙ before.streams b holds in
    let all = named_end (all_tests c.args.movis.now b ss) (all_tests c.args.movis.now b (drop k ss)) (named_kept b ss) (named_kept b (drop k ss)) [] c.indexes.indexes.named.items (before.left b holds) (ap (all_tests c.args.movis.now b) none) (ap (named_kept b) none) in
    let few = all_few c.args.movis.now b ss c.indexes.indexes.streams.items c.indexes.indexes.named.items streams all (omega (arith, c.if-len-gt-MOST_CHUNKS.false, c.len.ensures, c.len-2.ensures)) in
    (few.0, c.in-Ok-extend_from_slice.ensures.items ∙ ap (λ (x : List IndexChunk). c.indexes.indexes.streams.items ++ x) c.deref.ensures.value ∙ few.1)
