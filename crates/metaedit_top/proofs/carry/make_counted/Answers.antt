use Rattle.std.proofs.Common.{ap, ◌∙◌}
use Rattle.metaedit_top.specs.Stage.{counted}
use Rattle.metaedit_top.proofs.Carried.{made_carries, stopped_carries}
use Rattle.metaedit_top.proofs.carry.make_counted.Goals as goal

pub returns-in-Ok : goal.returns-in-Ok
returns-in-Ok g c =
    made_carries c.args.request.now c.requires.makes (g.D.Depot.disk c.args.depot.now) (g.D.Depot.disk c.make_file.new.depot) c.in-Ok.finished c.in-Ok.ensures

pub returns-in-Err : goal.returns-in-Err
returns-in-Err g c =
    let a = g.D.Depot.disk c.args.depot.now in
    let stop = c.in-Err.stop in
    stopped_carries c.args.request.now c.requires.makes a (g.D.Depot.disk c.make_file.new.depot) stop c.counted_stop.result
    (c.counted_stop.ensures ∙ ap (λ n. counted n c.faults.result stop) c.faults-before.ensures ∙ ap (λ n. counted a.faults n stop) c.faults.ensures) c.in-Err.ensures
