use Rattle.std.proofs.Common.{Some, subst, arith, ap}
use Rattle.turn_batch.specs.Members.{AllLow}
use Rattle.turn_batch.proofs.Rounds.{each_first, each_more, each_ready}
use Rattle.turn_batch.proofs.batch.Batch.some_rounds.Goals as goal

pub loop-made-init : goal.loop-made-init
loop-made-init g c = record {
  ran = each_first g.D.Depot.disk g.files c.args.self.now c.args.depots.now (subst AllLow c.self.view_is c.self.invariant) c.requires.1.1;
  some = c.some_open-open.ensures;
}

pub loop-made-preserved : goal.loop-made-preserved
loop-made-preserved g c = record {
  ran = each_more g.D.Depot.disk g.files c.loop-made._made c.args.self.now c.loop-made.self c.round-open.new.self c.args.depots.now c.loop-made.depots c.round-open.new.depots c.loop-made.invariant.ran c.round-open.ensures.ran;
  some = c.round-open.ensures.open;
}

pub returns-clause-ran : goal.returns-clause-ran
returns-clause-ran g c = record {
  made = c.loop-made._made;
  few = omega arith;
  whole = λ some. ap Some (omega arith);
  ran = c.loop-made.invariant.ran;
}

pub round-open-requires : goal.round-open-requires
round-open-requires g c κs within =
    let so = c.loop-made.invariant.ran in
    let members = so.members in
    let depots = so.depots in
    let size = c.requires.1.0 in
    (within, (omega arith, each_ready g.D.Depot.disk g.files c.loop-made._made c.args.self.now c.loop-made.self c.loop-made.self c.args.depots.now c.loop-made.depots c.loop-made.depots so c.requires.1.1))

pub returns-then-not-open-clause-ran : goal.returns-then-not-open-clause-ran
returns-then-not-open-clause-ran g c = record {
  made = c.loop-made._made;
  few = omega arith;
  whole = λ some. absurd (let is = c.loop-made.invariant.some in cc);
  ran = c.loop-made.invariant.ran;
}
