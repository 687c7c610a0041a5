use Rattle.std.proofs.Common.{ℕ, List, sym, subst, take, get_or, arith}
use Rattle.std.proofs.lemmas.Grind.{common_steps}
use Rattle.std.proofs.lemmas.List.{take_more}
use Rattle.turn_batch.specs.Schedules.{Ran}
use Rattle.turn_batch.proofs.Runs.{ran_first, ran_ready, ran_more}
use Rattle.turn_rows.specs.Two.{the_file}
use Rattle.turn_rows.proofs.Fresh.{all_settle, both_low, both_ready, two_members}
use Rattle.turn_rows.proofs.runs.answers_of.Goals as goal

pub loop-i-init : goal.loop-i-init
loop-i-init g c = record {
  count = omega (arith, c.new-answers.ensures.len);
  ran = ran_first g.D.Depot.disk the_file c.args.batch.now c.args.depots.now (both_low c.args.batch.now c.requires.fresh) (both_ready g.D.Depot.disk c.args.batch.now c.args.depots.now c.requires.fresh c.requires.hold);
}

pub turn-answer-requires : goal.turn-answer-requires
turn-answer-requires g c κs within =
    let so = c.loop-i.invariant.ran in
    let k = c.loop-i.i-index in
    let i = get_or c.args.schedule.now k 0 in
    let low = c.requires.inside k c.loop-i-test.true in
    let members = so.members in
    let depots = so.depots in
    let size = two_members c.args.batch.now c.requires.fresh in
    let two = c.requires.hold.two in (
      within,
      (
        omega arith,
        (
          omega arith,
          λ m d. ran_ready g.D.Depot.disk the_file (take k c.args.schedule.now) c.args.batch.now c.loop-i.batch c.loop-i.batch c.args.depots.now c.loop-i.depots c.loop-i.depots so
              (both_ready g.D.Depot.disk c.args.batch.now c.args.depots.now c.requires.fresh c.requires.hold) i m d (omega arith),
        ),
      ),
    )

pub loop-i-preserved : goal.loop-i-preserved
loop-i-preserved g c =
    let so = c.loop-i.invariant.ran in
    let k = c.loop-i.i-index in
    let i = get_or c.args.schedule.now k 0 in
    let e = c.turn-answer.ensures in
    let more = ran_more g.D.Depot.disk the_file (take k c.args.schedule.now) c.args.batch.now c.loop-i.batch c.turn-answer.new.self c.args.depots.now c.loop-i.depots c.turn-answer.new.depots so i c.turn-answer.result e.turned e.members e.others c.turn-answer.auto.depots in
    record {
      count = let before = c.loop-i.invariant.count in let put = c.in-Ok.ensures.items in grind (arith, common_steps);
      ran = subst (λ (ks : List ℕ). Ran g.D.Depot.disk the_file ks c.args.batch.now c.turn-answer.new.self c.args.depots.now c.turn-answer.new.depots) (sym (take_more c.args.schedule.now k 0 c.loop-i-test.true)) more;
    }

pub returns-clause-crash : goal.returns-clause-crash
returns-clause-crash g c = λ alone.
    all_settle g.D.Depot.disk (take c.loop-i.i-index c.args.schedule.now) c.args.batch.now c.loop-i.batch c.args.depots.now c.loop-i.depots c.requires.fresh c.requires.hold alone c.loop-i.invariant.ran
