use Rattle.std.proofs.Common.{◌+◌, sym, subst, arith, ◌∙◌}
use Rattle.turn_batch.specs.Members.{AllLow}
use Rattle.turn_batch.proofs.Rounds.{each_first, each_more, each_ready, fewer_left}
use Rattle.turn_batch.proofs.batch.Batch.all_rounds.Goals as goal

pub loop-open-init : goal.loop-open-init
loop-open-init g c = record {
  made = 0;
  ran = each_first g.D.Depot.disk g.files c.args.self.now c.args.depots.now (subst AllLow c.self.view_is c.self.invariant) c.requires.1.1;
  some = c.some_open-open.ensures;
}

pub loop-open-preserved : goal.loop-open-preserved
loop-open-preserved g c = record {
  made = c.loop-open.invariant.made + 1;
  ran = each_more g.D.Depot.disk g.files c.loop-open.invariant.made c.args.self.now c.loop-open.self c.round-open.new.self c.args.depots.now c.loop-open.depots c.round-open.new.depots c.loop-open.invariant.ran c.round-open.ensures.ran;
  some = c.round-open.ensures.open;
}

pub loop-open-smaller : goal.loop-open-smaller
loop-open-smaller g c =
    let so = c.loop-open.invariant.ran in
    let members = so.members in
    let depots = so.depots in
    let size = c.requires.1.0 in
    fewer_left g.D.Depot.disk g.files c.loop-open.invariant.made c.args.self.now c.loop-open.self c.round-open.new.self c.args.depots.now c.loop-open.depots c.round-open.new.depots (omega arith) so (sym c.loop-open.invariant.some ∙ c.loop-open-test.true) c.round-open.ensures.ran

pub returns-clause-ran : goal.returns-clause-ran
returns-clause-ran g c = record {
  made = c.loop-open.invariant.made;
  few = tt;
  whole = λ some. absurd (let off = c.loop-open-test.false in let is = c.loop-open.invariant.some in cc);
  ran = c.loop-open.invariant.ran;
}

pub round-open-requires : goal.round-open-requires
round-open-requires g c κs within =
    let so = c.loop-open.invariant.ran in
    let members = so.members in
    let depots = so.depots in
    let size = c.requires.1.0 in
    (within, (omega arith, each_ready g.D.Depot.disk g.files c.loop-open.invariant.made c.args.self.now c.loop-open.self c.loop-open.self c.args.depots.now c.loop-open.depots c.loop-open.depots so c.requires.1.1))
