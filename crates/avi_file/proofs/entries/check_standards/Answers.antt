use Rattle.std.proofs.Common.{◌+◌, drop, get_or, false, arith}
use Rattle.std.specs.List.{sum_by}
use Rattle.std.proofs.lemmas.List.{drop_more, drop_all}
use Rattle.me_disk.proofs.Holds.{holds_on}
use Rattle.me_disk.proofs.Runs.{ReadsOnly-trans}
use Rattle.avi_file.specs.declared.index.IndexChunk.{IndexChunk}
use Rattle.avi_file.specs.Entries.{IsWhole, chunk_count, chunk_tests}
use Rattle.avi_file.specs.Indexes.{IsSoundChunk}
use Rattle.avi_file.proofs.Counting.{counts_cut, counts_end, counts_next}
use Rattle.avi_file.proofs.Streamed.{holds_before}
use Rattle.avi_file.proofs.Placing.{each_of}
use Rattle.avi_file.proofs.entries.check_standards.Goals as goal

abbrev none : IndexChunk
none = record { body = record { at = 0; len = 0 }; standard = false }

pub check_chunk-requires-clause-movis : goal.check_chunk-requires-clause-movis
check_chunk-requires-clause-movis g c b held = c.requires.movis b (holds_before (g.D.Depot.disk c.args.depot.now) (g.D.Depot.disk c.chunks.depot) b c.chunks.invariant.reads held)

pub check_chunk-requires-clause-least : goal.check_chunk-requires-clause-least
check_chunk-requires-clause-least g c = (each_of IsSoundChunk c.args.chunks.now c.requires.sound c.chunks.chunk-index none c.chunks-test.true).0

pub check_chunk-requires-clause-whole : goal.check_chunk-requires-clause-whole
check_chunk-requires-clause-whole g c b held =
    each_of (IsWhole b) c.args.chunks.now (c.requires.whole b (holds_before (g.D.Depot.disk c.args.depot.now) (g.D.Depot.disk c.chunks.depot) b c.chunks.invariant.reads held)) c.chunks.chunk-index none c.chunks-test.true

pub returns-in-Err-clause-entries : goal.returns-in-Err-clause-entries
returns-in-Err-clause-entries g c b holds =
    let before = c.chunks.invariant in
    let xs = c.args.chunks.now in
    let k = c.chunks.chunk-index in
    let x = get_or xs k none in
    let held = holds_on (g.D.Depot.disk c.args.depot.now) (g.D.Depot.disk c.chunks.depot) b before.reads holds in
    counts_cut (chunk_tests c.args.movis.now c.args.bodies.now b) (chunk_count b) xs (drop k xs) (drop (k + 1) xs) x c.chunks.counted (chunk_count b x) (sum_by (chunk_count b) xs) c.in-Err.fault (before.left b holds) (drop_more xs k none c.chunks-test.true) (c.in-Err.ensures.entries b held)

pub chunks-preserved : goal.chunks-preserved
chunks-preserved g c =
    let before = c.chunks.invariant in
    let xs = c.args.chunks.now in
    let k = c.chunks.chunk-index in
    let x = get_or xs k none in
    record {
      reads = ReadsOnly-trans _ _ _ before.reads c.check_chunk.ensures.reads;
      few = omega (arith, before.few, c.in-Ok.ensures.few);
      left = λ b holds.
          let held = holds_on (g.D.Depot.disk c.args.depot.now) (g.D.Depot.disk c.chunks.depot) b before.reads holds in
          counts_next (chunk_tests c.args.movis.now c.args.bodies.now b) (chunk_count b) xs (drop k xs) (drop (k + 1) xs) x c.chunks.counted c.in-Ok.more (before.left b holds) (drop_more xs k none c.chunks-test.true) (c.in-Ok.ensures.entries b held);
    }

pub returns-clause-entries : goal.returns-clause-entries
returns-clause-entries g c b holds =
    let xs = c.args.chunks.now in
    let k = c.chunks.chunk-index in
    counts_end (chunk_tests c.args.movis.now c.args.bodies.now b) (chunk_count b) xs (drop k xs) c.chunks.counted (c.chunks.invariant.left b holds) (drop_all k xs c.chunks-test.false)
