use Rattle.std.proofs.Common.{sym, ◌∙◌}
use Rattle.metaedit_top.proofs.Carried.{runs_carries}
use Rattle.metaedit_top.proofs.carry.carry.Goals as goal

pub returns-else-makes_file : goal.returns-else-makes_file
returns-else-makes_file g c =
    runs_carries c.args.request.now (sym c.makes_file.ensures ∙ c.if-makes_file.false) (g.D.Depot.disk c.args.depot.now) (g.D.Depot.disk c.run.new.depot) c.run.result c.run.ensures
