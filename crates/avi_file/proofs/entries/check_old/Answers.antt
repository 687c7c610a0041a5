use Rattle.std.proofs.Common.{sym, subst}
use Rattle.std.specs.declared.result.Result.TheVariants.{Err}
use Rattle.me_disk.proofs.Holds.{holds_on}
use Rattle.part_tree.specs.declared.why.ReadFault.{ReadFault}
use Rattle.avi_file.specs.Entries.{ReadsEntries}
use Rattle.avi_file.specs.Indexes.{table_at}
use Rattle.avi_file.proofs.Counting.{base_fails, old_fails, old_reads}
use Rattle.avi_file.proofs.entries.check_old.Goals as goal

pub returns-in-Err-clause-entries : goal.returns-in-Err-clause-entries
returns-in-Err-clause-entries g c b holds =
    let t = table_at b c.args.idx in
    subst (λ (f : ReadFault). ReadsEntries b c.args.bodies.now c.args.movi t (Err f)) (sym c.entry_fault.ensures) (base_fails b c.args.bodies.now c.args.movi t c.in-Err.fault (c.in-Err.ensures.base b holds))

pub returns-in-Err-check_idx1-clause-entries : goal.returns-in-Err-check_idx1-clause-entries
returns-in-Err-check_idx1-clause-entries g c b holds =
    let t = table_at b c.args.idx in
    let held = holds_on (g.D.Depot.disk c.args.depot.now) (g.D.Depot.disk c.entry_base.new.depot) b c.entry_base.ensures.reads holds in
    subst (λ (f : ReadFault). ReadsEntries b c.args.bodies.now c.args.movi t (Err f)) (sym c.entry_fault-in-Err-check_idx1.ensures)
    (old_fails b c.args.bodies.now c.args.movi t c.in-Ok.base c.in-Err-check_idx1.fault (c.in-Ok.ensures.base b holds) (c.in-Err-check_idx1.ensures.entries b held))

pub returns-in-Ok-check_idx1-clause-entries : goal.returns-in-Ok-check_idx1-clause-entries
returns-in-Ok-check_idx1-clause-entries g c b holds =
    let t = table_at b c.args.idx in
    let held = holds_on (g.D.Depot.disk c.args.depot.now) (g.D.Depot.disk c.entry_base.new.depot) b c.entry_base.ensures.reads holds in
    old_reads b c.args.bodies.now c.args.movi c.args.idx t c.in-Ok.base c.in-Ok-check_idx1.counted (c.in-Ok.ensures.base b holds) (c.in-Ok-check_idx1.ensures.entries b held)
