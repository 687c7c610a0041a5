use Rattle.std.proofs.Common.{◌≡◌, ◌+◌, ◌<◌, min, refl, arith}
use Rattle.file_swap.specs.Steps.{calls}
use Rattle.file_swap.proofs.Ends.{run_more, run_done, run_failed}
use Rattle.file_swap.proofs.Tallies.{counted_more, counted_done, counted_failed}
use Rattle.file_swap.proofs.swapping.Swap.run.Goals as goal

pub loop-self-preserved : goal.loop-self-preserved
loop-self-preserved g c =
    let so = c.loop-self.invariant.run in
    let old = g.D.Depot.disk c.args.depot.now in
    let now = g.D.Depot.disk c.loop-self.depot in
    let new = g.D.Depot.disk c.turn.new.depot in
    let e = c.in-More.ensures in
    let here = c.loop-self.self in
    let counts : c.turn.new.self.made ≡ min (here.made + 1) (calls here.plan) = e.made (λ x. cc) in
    let low : c.turn.new.self.made < calls here.plan = e.more refl in
    record {
      run = run_more c.args.self here g.old old now new so e.crash e.tells e.later c.turn.new.self e.plan (e.underway (λ x. cc)) (e.sure (λ x. cc)) _ e.written (λ x. cc) (omega arith);
      counted = counted_more c.args.self.plan c.args.self.made here _ _ _ so.plan c.loop-self.invariant.counted e.counted c.turn.new.self.made (omega arith) low;
    }

pub returns-in-Done-clause-runs : goal.returns-in-Done-clause-runs
returns-in-Done-clause-runs g c =
    let e = c.in-Done.ensures in
    run_done c.args.self c.loop-self.self g.old (g.D.Depot.disk c.args.depot.now) (g.D.Depot.disk c.loop-self.depot) (g.D.Depot.disk c.turn.new.depot) c.loop-self.invariant.run e.crash e.tells e.later
    c.turn.new.self e.plan (e.underway (λ x. cc)) (e.sure (λ x. cc)) (g.met.D.Depot.lawful c.turn.new.depot) e.runs (e.made (λ x. cc)) (e.done refl) e.written

pub returns-in-Fault-clause-runs : goal.returns-in-Fault-clause-runs
returns-in-Fault-clause-runs g c =
    let e = c.in-Fault.ensures in
    run_failed c.args.self c.loop-self.self g.old (g.D.Depot.disk c.args.depot.now) (g.D.Depot.disk c.loop-self.depot) (g.D.Depot.disk c.turn.new.depot) c.loop-self.invariant.run e.crash e.tells e.later
    _ e.runs (e.cause refl) e.written

pub returns-in-Done-clause-counted : goal.returns-in-Done-clause-counted
returns-in-Done-clause-counted g c =
    let so = c.loop-self.invariant in
    let e = c.in-Done.ensures in
    counted_done c.args.self.plan c.args.self.made c.loop-self.self _ _ _ so.run.plan so.counted e.counted c.turn.new.self.made (e.made (λ x. cc)) (e.done refl)

pub returns-in-Fault-clause-counted : goal.returns-in-Fault-clause-counted
returns-in-Fault-clause-counted g c =
    let so = c.loop-self.invariant in
    counted_failed c.args.self.plan c.args.self.made c.loop-self.self _ _ _ so.run.plan so.counted c.in-Fault.ensures.counted _
