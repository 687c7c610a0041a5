use Rattle.std.proofs.Common.{sym, subst}
use Rattle.std.specs.declared.result.Result.TheVariants.{Err}
use Rattle.part_tree.specs.declared.why.ReadFault.{ReadFault}
use Rattle.avi_file.specs.Entries.{Counts, chunk_count, chunk_tests}
use Rattle.avi_file.proofs.Counting.{chunk_counted, chunk_fails, chunk_passed}
use Rattle.avi_file.proofs.entries.check_chunk.Goals as goal

pub returns-then-not-chunk-clause-entries : goal.returns-then-not-chunk-clause-entries
returns-then-not-chunk-clause-entries g c b holds = chunk_passed c.args.movis.now c.args.bodies.now b c.args.chunk.now c.if-not-chunk.true

pub check_standard-requires-clause-told : goal.check_standard-requires-clause-told
check_standard-requires-clause-told g c b holds = c.requires.whole b holds c.if-not-chunk.false

pub returns-in-Err-clause-entries : goal.returns-in-Err-clause-entries
returns-in-Err-clause-entries g c b holds =
    let x = c.args.chunk.now in
    let movis = c.args.movis.now in
    let bodies = c.args.bodies.now in
    subst (λ (f : ReadFault). Counts (chunk_tests movis bodies b x) (chunk_count b x) (Err f)) (sym c.entry_fault.ensures) (chunk_fails movis bodies b x (chunk_count b x) c.in-Err.fault c.if-not-chunk.false (c.in-Err.ensures.entries b holds))

pub returns-in-Ok-clause-entries : goal.returns-in-Ok-clause-entries
returns-in-Ok-clause-entries g c b holds = chunk_counted c.args.movis.now c.args.bodies.now b c.args.chunk.now c.in-Ok.counted c.if-not-chunk.false (c.in-Ok.ensures.entries b holds)
