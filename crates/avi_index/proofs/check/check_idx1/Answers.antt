use Rattle.std.proofs.Common.{◌≡◌, ◌*◌, ◌/◌, ℕ, length, sym, ap, arith}
use Rattle.container_model.specs.Written.{slice}
use Rattle.container_model.proofs.Written.{length-slice}
use Rattle.me_disk.proofs.Holds.{holds_on}
use Rattle.me_disk.proofs.Runs.{ReadsOnly-refl, ReadsOnly-trans}
use Rattle.std.specs.declared.result.Result.TheVariants.{Err}
use Rattle.part_tree.specs.declared.index.IndexFault.{IndexFault}
use Rattle.part_tree.specs.declared.index.IndexFault.TheVariants.{Depot}
use Rattle.avi_index.specs.Checks.{model_base}
use Rattle.me_disk.proofs.Windows.{empty_window}
use Rattle.container_model.proofs.Tables.{byte_small}
use Rattle.avi_index.proofs.Checks.{left_start, left_counted, judged_fails, judged_all}
use Rattle.avi_index.proofs.check.check_idx1.Goals as goal

pub entries-init : goal.entries-init
entries-init g c = record {
  window = empty_window (g.D.Depot.disk c.args.depot.now) c.new-window.result c.new-window.ensures.from c.new-window.ensures.len;
  reads = ReadsOnly-refl (g.D.Depot.disk c.args.depot.now);
  few = omega arith;
  left = λ b held. left_start (model_base c.args.base) c.args.movi c.args.indexes.now (c.args.idx.len / 16) (slice b c.args.idx.at c.args.idx.len);
}

pub entries-preserved : goal.entries-preserved
entries-preserved g c = record {
  window = c.read_entry.ensures.window;
  reads = ReadsOnly-trans (g.D.Depot.disk c.args.depot.now) (g.D.Depot.disk c.entries.depot) (g.D.Depot.disk c.read_entry.new.depot) c.entries.invariant.reads c.read_entry.ensures.reads;
  few = omega (arith, c.entries.invariant.few, c.from-counted.ensures, byte_small c.in-Ok-judge.counts);
  left = λ b held.
      let here = holds_on (g.D.Depot.disk c.args.depot.now) (g.D.Depot.disk c.entries.depot) b c.entries.invariant.reads held in
      let body = slice b c.args.idx.at c.args.idx.len in
      let judged = c.in-Ok-judge.ensures.row (slice body (16 * c.entries.k) 16) (c.in-Ok.ensures.entry b here) in
      left_counted (model_base c.args.base) c.args.movi c.args.indexes.now (c.args.idx.len / 16) c.entries.k c.entries.counted c.from-counted.result c.in-Ok-judge.counts body c.entries-test.true (c.entries.invariant.left b held) judged c.from-counted.ensures;
}

pub returns-in-Err-judge-clause-entries : goal.returns-in-Err-judge-clause-entries
returns-in-Err-judge-clause-entries g c b held =
    let here = holds_on (g.D.Depot.disk c.args.depot.now) (g.D.Depot.disk c.entries.depot) b c.entries.invariant.reads held in
    let body = slice b c.args.idx.at c.args.idx.len in
    let size : c.args.idx.len / 16 ≡ length body / 16 = ap (λ (n : ℕ). n / 16) (sym (length-slice b c.args.idx.at c.args.idx.len (c.requires.inside b held))) in
    judged_fails (model_base c.args.base) c.args.movi c.args.indexes.now (c.args.idx.len / 16) c.entries.k c.entries.counted c.in-Err-judge.fault body size c.entries-test.true (c.entries.invariant.left b held)
    (c.in-Err-judge.ensures.row (slice body (16 * c.entries.k) 16) (c.in-Ok.ensures.entry b here))

pub returns-in-Err-judge-clause-cause : goal.returns-in-Err-judge-clause-cause
returns-in-Err-judge-clause-cause g c e =
    let same : c.in-Err-judge.fault ≡ Depot = cc in
    absurd (c.in-Err-judge.ensures.never (ap (λ (x : IndexFault). Err x) same))

pub returns-clause-entries : goal.returns-clause-entries
returns-clause-entries g c b held =
    let body = slice b c.args.idx.at c.args.idx.len in
    let size : c.args.idx.len / 16 ≡ length body / 16 = ap (λ (n : ℕ). n / 16) (sym (length-slice b c.args.idx.at c.args.idx.len (c.requires.inside b held))) in
    judged_all (model_base c.args.base) c.args.movi c.args.indexes.now (c.args.idx.len / 16) c.entries.k c.entries.counted body size c.entries-test.false (c.entries.invariant.left b held)
