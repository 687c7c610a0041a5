use Rattle.std.proofs.Common.{◌≡◌, ◌∙◌, ◌+◌, ◌*◌, ◌<◌, ◌≤◌, ℕ, List, drop, sym, ap, subst, arith}
use Rattle.std.specs.declared.result.Result.TheVariants.{Err}
use Rattle.container_model.specs.Written.{slice}
use Rattle.me_disk.proofs.Holds.{holds_on}
use Rattle.me_disk.proofs.Runs.{ReadsOnly-refl, ReadsOnly-trans}
use Rattle.me_disk.proofs.Windows.{empty_window}
use Rattle.part_tree.specs.declared.index.IndexFault.{IndexFault}
use Rattle.part_tree.specs.declared.index.IndexFault.TheVariants.{Depot}
use Rattle.opendml_index.specs.Entries.{width_by, IsStandard}
use Rattle.opendml_index.proofs.Rows.{row_in}
use Rattle.container_model.proofs.Tables.{byte_small}
use Rattle.opendml_index.proofs.Left.{left_start, left_more, judged_fails, judged_all}
use Rattle.opendml_index.proofs.check.check_entries.Goals as goal

pub entries-init : goal.entries-init
entries-init g c = record {
  window = empty_window (g.D.Depot.disk c.args.depot.now) c.new-window.result c.new-window.ensures.from c.new-window.ensures.len;
  reads = ReadsOnly-refl (g.D.Depot.disk c.args.depot.now);
  few = omega arith;
  left = λ b held ends. left_start c.args.movis.now c.args.indexes.now c.args.table.base (width_by c.args.table.two_fields) c.args.table.used (drop c.args.table.at b);
}

pub entries-preserved : goal.entries-preserved
entries-preserved g c = record {
  window = c.read_entry.ensures.window;
  reads = ReadsOnly-trans (g.D.Depot.disk c.args.depot.now) (g.D.Depot.disk c.entries.depot) (g.D.Depot.disk c.read_entry.new.depot) c.entries.invariant.reads c.read_entry.ensures.reads;
  few = omega (arith, c.entries.invariant.few, c.from-counted.ensures, byte_small c.in-Ok-judge.counts);
  left = λ b held ends.
      let table = c.args.table in
      let w = width_by table.two_fields in
      let here = holds_on (g.D.Depot.disk c.args.depot.now) (g.D.Depot.disk c.entries.depot) b c.entries.invariant.reads held in
      let place : slice b (table.at + c.width_by_fields-width.result * c.entries.k) w ≡ slice (drop table.at b) (w * c.entries.k) w =
      ap (λ (n : ℕ). slice b (table.at + n * c.entries.k) w) c.width_by_fields-width.ensures ∙ sym (row_in b table.at (w * c.entries.k) w) in
      let is = subst (λ (r : List ℕ). IsStandard r c.in-Ok.entry) place (c.in-Ok.ensures.entry b here) in
      let lt : c.entries.k < table.used = omega (arith, c.entries-test.true, c.from-k-end.ensures) in
      left_more c.args.movis.now c.args.indexes.now table.base w table.used c.entries.k c.entries.counted c.from-counted.result c.in-Ok-judge.counts (drop table.at b) lt (c.entries.invariant.left b held ends)
      (c.in-Ok-judge.ensures.row (slice (drop table.at b) (w * c.entries.k) w) is ends) c.from-counted.ensures;
}

pub returns-in-Err-judge-clause-entries : goal.returns-in-Err-judge-clause-entries
returns-in-Err-judge-clause-entries g c b held ends =
    let table = c.args.table in
    let w = width_by table.two_fields in
    let here = holds_on (g.D.Depot.disk c.args.depot.now) (g.D.Depot.disk c.entries.depot) b c.entries.invariant.reads held in
    let place : slice b (table.at + c.width_by_fields-width.result * c.entries.k) w ≡ slice (drop table.at b) (w * c.entries.k) w =
    ap (λ (n : ℕ). slice b (table.at + n * c.entries.k) w) c.width_by_fields-width.ensures ∙ sym (row_in b table.at (w * c.entries.k) w) in
    let is = subst (λ (r : List ℕ). IsStandard r c.in-Ok.entry) place (c.in-Ok.ensures.entry b here) in
    let lt : c.entries.k < table.used = omega (arith, c.entries-test.true, c.from-k-end.ensures) in
    judged_fails c.args.movis.now c.args.indexes.now table.base w table.used c.entries.k c.entries.counted c.in-Err-judge.fault (drop table.at b) lt (c.entries.invariant.left b held ends)
    (c.in-Err-judge.ensures.row (slice (drop table.at b) (w * c.entries.k) w) is ends)

pub returns-in-Err-judge-clause-cause : goal.returns-in-Err-judge-clause-cause
returns-in-Err-judge-clause-cause g c e =
    let same : c.in-Err-judge.fault ≡ Depot = cc in
    absurd (c.in-Err-judge.ensures.never (ap (λ (x : IndexFault). Err x) same))

pub returns-clause-entries : goal.returns-clause-entries
returns-clause-entries g c b held ends =
    let table = c.args.table in
    let le : table.used ≤ c.entries.k = omega (arith, c.entries-test.false, c.from-k-end.ensures) in
    judged_all c.args.movis.now c.args.indexes.now table.base (width_by table.two_fields) table.used c.entries.k c.entries.counted (drop table.at b) le (c.entries.invariant.left b held ends)
