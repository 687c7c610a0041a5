use Rattle.std.proofs.Common.{arith}
use Rattle.me_disk.proofs.Holds.{holds_on}
use Rattle.me_disk.proofs.Runs.{ReadsOnly-trans}
use Rattle.avi_plan.proofs.Renumbered.{count_of, err_told, left_all, left_next}
use Rattle.avi_plan.proofs.renumber.renumber_all.Goals as goal

pub returns-in-Err-clause-large : goal.returns-in-Err-clause-large
returns-in-Err-clause-large g c b movi base xs held all told =
    let here = holds_on (g.D.Depot.disk c.args.depot.now) (g.D.Depot.disk c.tables.depot) b c.tables.invariant.reads held in
    err_told c.args.moves.now b movi base xs c.args.tables.now c.tables.table-index _ c.tables.changes.items c.in-Err.fault told all c.tables-test.true (c.tables.invariant.left b movi base xs held all told)
    (λ x tabled is. c.in-Err.ensures.large b movi base x here tabled is)

pub tables-preserved : goal.tables-preserved
tables-preserved g c = record {
  reads = ReadsOnly-trans (g.D.Depot.disk c.args.depot.now) (g.D.Depot.disk c.tables.depot) (g.D.Depot.disk c.renumber.new.depot) c.tables.invariant.reads c.in-Ok.ensures.reads;
  sound = c.in-Ok.ensures.sound c.tables.invariant.sound;
  named = λ b held. c.in-Ok.ensures.named b (holds_on (g.D.Depot.disk c.args.depot.now) (g.D.Depot.disk c.tables.depot) b c.tables.invariant.reads held) (c.tables.invariant.named b held);
  left = λ b movi base xs held all told.
      let here = holds_on (g.D.Depot.disk c.args.depot.now) (g.D.Depot.disk c.tables.depot) b c.tables.invariant.reads held in
      left_next c.args.moves.now b movi base xs c.args.tables.now c.tables.table-index _ c.tables.changes.items c.renumber.new.changes.items told all c.tables-test.true (c.tables.invariant.left b movi base xs held all told)
      (λ x tabled is. c.in-Ok.ensures.changes b movi base x here tabled is)
      (λ x tabled is. c.in-Ok.ensures.large b movi base x here tabled is);
}

pub returns-clause-changes : goal.returns-clause-changes
returns-clause-changes g c b movi base xs held all told =
    (left_all c.args.moves.now b base xs c.tables.table-index c.tables.changes.items (omega (arith, count_of movi base xs c.args.tables.now told, c.tables-test.false)) (c.tables.invariant.left b movi base xs held all told)).0

pub returns-clause-large : goal.returns-clause-large
returns-clause-large g c b movi base xs held all told =
    (left_all c.args.moves.now b base xs c.tables.table-index c.tables.changes.items (omega (arith, count_of movi base xs c.args.tables.now told, c.tables-test.false)) (c.tables.invariant.left b movi base xs held all told)).1
