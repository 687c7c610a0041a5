use Rattle.std.proofs.Common.{◌+◌, ◌≤◌}
use Rattle.me_disk.proofs.Holds.{holds_on}
use Rattle.me_disk.proofs.Runs.{ReadsOnly-trans}
use Rattle.wave_parts.specs.Opened.{PartEnds, end_after}
use Rattle.wave_parts.proofs.Whole.{bodies_end, each_get, end_last, end_next, opened_last, opened_next}
use Rattle.wave_parts.proofs.parts.put_parts.Goals as goal

pub put_part-requires-clause-body : goal.put_part-requires-clause-body
put_part-requires-clause-body g c = each_get (λ p. p.body.at + p.body.len ≤ c.args.end) c.args.more.now c.parts.part-index _ (bodies_end 12 c.args.end c.args.more.now c.requires.ascend) c.parts-test.true

pub parts-preserved : goal.parts-preserved
parts-preserved g c =
    let before = c.parts.invariant in
    let ps = c.args.more.now in
    let k = c.parts.part-index in
    record {
      reads = ReadsOnly-trans _ _ _ before.reads c.put_part.ensures.reads;
      place = end_next c.parts.at ps k _ (end_after 12 ps) c.parts-test.true before.place;
      told = λ b holds ends.
          let held = holds_on (g.D.Depot.disk c.args.depot.now) (g.D.Depot.disk c.parts.depot) b before.reads holds in
          opened_next b c.parts.parts.items c.put_part.new.parts.items _ ps k _ c.parts-test.true (c.in-Ok.ensures.part b held (each_get (PartEnds b) ps k _ ends c.parts-test.true)) (before.told b holds ends);
    }

pub returns-in-Err-clause-why : goal.returns-in-Err-clause-why
returns-in-Err-clause-why g c b holds ends =
    let before = c.parts.invariant in
    let held = holds_on (g.D.Depot.disk c.args.depot.now) (g.D.Depot.disk c.parts.depot) b before.reads holds in
    c.in-Err.ensures.why b held (each_get (PartEnds b) c.args.more.now c.parts.part-index _ ends c.parts-test.true)

pub returns-clause-parts : goal.returns-clause-parts
returns-clause-parts g c b holds ends = opened_last b c.parts.parts.items _ c.args.more.now c.parts.part-index c.parts-test.false (c.parts.invariant.told b holds ends)

pub returns-clause-place : goal.returns-clause-place
returns-clause-place g c = end_last c.parts.at c.args.more.now c.parts.part-index (end_after 12 c.args.more.now) c.parts-test.false c.parts.invariant.place
