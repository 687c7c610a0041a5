use Rattle.std.proofs.Common.{◌∙◌, ◌+◌, ◌*◌, ℕ, ap, arith}
use Rattle.me_disk.proofs.Holds.{holds_on}
use Rattle.me_disk.proofs.Runs.{ReadsOnly-trans}
use Rattle.container_model.specs.Written.{slice}
use Rattle.opendml_index.specs.Entries.{width_by}
use Rattle.avi_plan.proofs.Heads.{eight, first_found, first_none}
use Rattle.avi_plan.proofs.head.first_counted.Goals as goal

pub returns-in-Some-clause-first : goal.returns-in-Some-clause-first
returns-in-Some-clause-first g c b held =
    let here = holds_on (g.D.Depot.disk c.args.depot.now) (g.D.Depot.disk c.entries.depot) b c.entries.invariant.reads held in
    first_found (width_by c.args.head.now.two_fields) c.args.head.now.used c.entries.k c.args.from c.in-Some.offset b c.read_at.new.into (omega (arith, c.entries-test.true, c.from-k-end.ensures)) (eight c.args.head.now.two_fields)
    (c.in_ok-read_at.ensures.bytes b here ∙ ap (λ (n : ℕ). slice b (c.args.from + n * c.entries.k) 8) c.entry_width-width.ensures.is) c.in-Some.ensures
    ∙ c.entries.invariant.left b held

pub entries-preserved : goal.entries-preserved
entries-preserved g c = record {
  window = c.in_ok-read_at.ensures.window;
  reads = ReadsOnly-trans (g.D.Depot.disk c.args.depot.now) (g.D.Depot.disk c.entries.depot) (g.D.Depot.disk c.read_at.new.depot) c.entries.invariant.reads c.in_ok-read_at.ensures.reads;
  left = λ b held.
      let here = holds_on (g.D.Depot.disk c.args.depot.now) (g.D.Depot.disk c.entries.depot) b c.entries.invariant.reads held in
      first_none (width_by c.args.head.now.two_fields) c.args.head.now.used c.entries.k c.args.from b c.read_at.new.into (omega (arith, c.entries-test.true, c.from-k-end.ensures)) (eight c.args.head.now.two_fields)
      (c.in_ok-read_at.ensures.bytes b here ∙ ap (λ (n : ℕ). slice b (c.args.from + n * c.entries.k) 8) c.entry_width-width.ensures.is) c.in-None.ensures
      ∙ c.entries.invariant.left b held;
}
