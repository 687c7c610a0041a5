use Rattle.std.proofs.Common.{arith}
use Rattle.turn_rows.proofs.Fresh.{all_settle, both_ready, two_members}
use Rattle.turn_rows.proofs.runs.run_turns.Goals as goal

pub run-requires : goal.run-requires
run-requires g c κs within =
    let size = two_members c.args.batch.now c.requires.fresh in
    let two = c.requires.hold.two in
    (within, (omega arith, (λ i low. let inside = c.requires.inside i low in omega arith, both_ready g.D.Depot.disk c.args.batch.now c.args.depots.now c.requires.fresh c.requires.hold)))

pub returns-clause-crash : goal.returns-clause-crash
returns-clause-crash g c = λ alone. all_settle g.D.Depot.disk c.args.schedule.now c.args.batch.now c.run.new.self c.args.depots.now c.run.new.depots c.requires.fresh c.requires.hold alone c.run.ensures
