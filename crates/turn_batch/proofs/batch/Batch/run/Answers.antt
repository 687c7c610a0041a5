use Rattle.std.proofs.Common.{ℕ, List, sym, subst, take, get_or, arith}
use Rattle.std.proofs.lemmas.List.{take_more}
use Rattle.turn_batch.specs.Members.{AllLow}
use Rattle.turn_batch.specs.Schedules.{Ran}
use Rattle.turn_batch.proofs.Runs.{ran_first, ran_ready, ran_more}
use Rattle.turn_batch.proofs.batch.Batch.run.Goals as goal

pub loop-i-init : goal.loop-i-init
loop-i-init g c = ran_first g.D.Depot.disk g.files c.args.self.now c.args.depots.now (subst AllLow c.self.view_is c.self.invariant) c.requires.1.1.1

pub turn-requires : goal.turn-requires
turn-requires g c κs within =
    let so = c.loop-i.invariant in
    let k = c.loop-i.i-index in
    let i = get_or c.args.schedule.now k 0 in
    let low = c.requires.1.1.0 k c.loop-i-test.true in
    let members = so.members in
    let depots = so.depots in
    let size = c.requires.1.0 in (
      within,
      (
        omega arith,
        (
          omega arith,
          λ m d. ran_ready g.D.Depot.disk g.files (take k c.args.schedule.now) c.args.self.now c.loop-i.self c.loop-i.self c.args.depots.now c.loop-i.depots c.loop-i.depots so c.requires.1.1.1 i m d (omega arith),
        ),
      ),
    )

pub loop-i-preserved : goal.loop-i-preserved
loop-i-preserved g c =
    let so = c.loop-i.invariant in
    let k = c.loop-i.i-index in
    let i = get_or c.args.schedule.now k 0 in
    let e = c.turn.ensures in
    let more = ran_more g.D.Depot.disk g.files (take k c.args.schedule.now) c.args.self.now c.loop-i.self c.turn.new.self c.args.depots.now c.loop-i.depots c.turn.new.depots so i c.turn.result e.turned e.members e.others c.turn.auto.depots in
    subst (λ (ks : List ℕ). Ran g.D.Depot.disk g.files ks c.args.self.now c.turn.new.self c.args.depots.now c.turn.new.depots) (sym (take_more c.args.schedule.now k 0 c.loop-i-test.true)) more
