use Rattle.std.proofs.Common.{◌≡◌, ◌∙◌, ◌*◌, ◌/◌, ℕ, length, sym, ap}
use Rattle.container_model.specs.Written.{slice}
use Rattle.container_model.proofs.Written.{length-slice}
use Rattle.me_disk.proofs.Holds.{holds_on}
use Rattle.me_disk.proofs.Runs.{ReadsOnly-trans}
use Rattle.me_disk.proofs.Windows.{empty_window}
use Rattle.avi_index.proofs.Bases.{undecided_start, undecided_more, decided, undecided_all}
use Rattle.avi_index.proofs.base.entry_base.Goals as goal

pub entries-init : goal.entries-init
entries-init g c = record {
  window = empty_window (g.D.Depot.disk c.len.new.self) c.new-window.result c.new-window.ensures.from c.new-window.ensures.len;
  reads = c.len.ensures.reads;
  left = λ b held. undecided_start b c.args.indexes.now c.args.movi (c.args.idx.len / 16) (slice b c.args.idx.at c.args.idx.len);
}

pub entries-preserved : goal.entries-preserved
entries-preserved g c = record {
  window = c.read_entry.ensures.window;
  reads = ReadsOnly-trans (g.D.Depot.disk c.args.depot.now) (g.D.Depot.disk c.entries.depot) (g.D.Depot.disk c.read_entry.new.depot) c.entries.invariant.reads c.read_entry.ensures.reads;
  left = λ b held.
      let here = holds_on (g.D.Depot.disk c.args.depot.now) (g.D.Depot.disk c.entries.depot) b c.entries.invariant.reads held in
      let body = slice b c.args.idx.at c.args.idx.len in
      undecided_more b c.args.indexes.now c.args.movi (c.args.idx.len / 16) c.entries.k body c.entries-test.true (c.entries.invariant.left b held)
      (sym (c.does_decide.ensures (slice body (16 * c.entries.k) 16) (c.in-Ok-read_entry.ensures.entry b here)) ∙ c.if-does_decide.false);
}

pub returns-then-does_decide-clause-base : goal.returns-then-does_decide-clause-base
returns-then-does_decide-clause-base g c b held =
    let here = holds_on (g.D.Depot.disk c.args.depot.now) (g.D.Depot.disk c.entries.depot) b c.entries.invariant.reads held in
    let there = holds_on (g.D.Depot.disk c.entries.depot) (g.D.Depot.disk c.read_entry.new.depot) b c.read_entry.ensures.reads here in
    let body = slice b c.args.idx.at c.args.idx.len in
    let size : c.args.idx.len / 16 ≡ length body / 16 = ap (λ (n : ℕ). n / 16) (sym (length-slice b c.args.idx.at c.args.idx.len (c.requires.inside b held))) in
    let is = c.in-Ok-read_entry.ensures.entry b here in
    decided b c.args.indexes.now c.args.movi (c.args.idx.len / 16) c.entries.k body c.settle.result size c.entries-test.true (c.entries.invariant.left b held)
    (sym (c.does_decide.ensures (slice body (16 * c.entries.k) 16) is) ∙ c.if-does_decide.true) (c.settle.ensures.base b (slice body (16 * c.entries.k) 16) there is)

pub returns-clause-base : goal.returns-clause-base
returns-clause-base g c b held =
    let body = slice b c.args.idx.at c.args.idx.len in
    let size : c.args.idx.len / 16 ≡ length body / 16 = ap (λ (n : ℕ). n / 16) (sym (length-slice b c.args.idx.at c.args.idx.len (c.requires.inside b held))) in
    undecided_all b c.args.indexes.now c.args.movi (c.args.idx.len / 16) c.entries.k body size c.entries-test.false (c.entries.invariant.left b held)
