use Rattle.std.proofs.Common.{◌≡◌, ◌∙◌, ◌≤◌, ℕ, List, length, ap, subst, arith}
use Rattle.std.specs.Prelude.{None, Some, ◌^◌}
use Rattle.me_disk.proofs.Holds.{holds_on}
use Rattle.me_disk.proofs.Runs.{ReadsOnly-trans}
use Rattle.container_model.specs.Tables.{named}
use Rattle.opendml_index.specs.Index.{entries}
use Rattle.opendml_index.specs.Checks.{TableAt, JudgesEntries}
use Rattle.opendml_index.proofs.Places.{ends_small}
use Rattle.opendml_index.proofs.check.check_standard.Goals as goal

pub returns-in-Ok-None-clause-entries : goal.returns-in-Ok-None-clause-entries
returns-in-Ok-None-clause-entries g c b held =
    let here = holds_on (g.D.Depot.disk c.args.depot.now) (g.D.Depot.disk c.len.new.self) b c.len.ensures.reads held in
    let never : TableAt b c.args.at None = rw c.in-Ok-None.field-0-is at (c.in-Ok-None.ensures.table b here) in
    absurd never

pub returns-clause-entries : goal.returns-clause-entries
returns-clause-entries g c b held =
    let here = holds_on (g.D.Depot.disk c.args.depot.now) (g.D.Depot.disk c.len.new.self) b c.len.ensures.reads held in
    let there = holds_on (g.D.Depot.disk c.len.new.self) (g.D.Depot.disk c.entries_at.new.depot) b c.entries_at.ensures.reads here in
    let table : TableAt b c.args.at (Some c.in-Ok-Some.table) = rw c.in-Ok-Some.field-0-is at (c.in-Ok-Some.ensures.table b here) in
    let all : c.in-Ok.len ≡ length b = c.in-Ok.ensures.answer held.tells ∙ ap length held.bytes in
    let small : length b ≤ 2 ^ 64 = omega (arith, all) in
    let ends = ends_small (length b) (2 ^ 64) c.args.movis.now small (c.requires.movis b held) in
    subst (λ (x : ℕ). JudgesEntries c.args.movis.now c.args.indexes.now x (entries (named b c.args.at).body) c.check_entries.result) table.1
    (subst (λ (x : List (List ℕ)). JudgesEntries c.args.movis.now c.args.indexes.now c.in-Ok-Some.table.base x c.check_entries.result) table.0 (c.check_entries.ensures.entries b there ends))

pub returns-clause-reads : goal.returns-clause-reads
returns-clause-reads g c =
    ReadsOnly-trans (g.D.Depot.disk c.args.depot.now) (g.D.Depot.disk c.len.new.self) (g.D.Depot.disk c.check_entries.new.depot) c.len.ensures.reads
    (ReadsOnly-trans (g.D.Depot.disk c.len.new.self) (g.D.Depot.disk c.entries_at.new.depot) (g.D.Depot.disk c.check_entries.new.depot) c.entries_at.ensures.reads c.check_entries.ensures.reads)
