use Rattle.edit_planner.proofs.Stands.{cell_is}
use Rattle.edit_planner.proofs.load.load_cell.Goals as goal

pub returns-clause-cell : goal.returns-clause-cell
returns-clause-cell g c = λ b holds role d e s. cell_is c.args.at d c.args.part.now role c.lacks_pad.result c.in-Ok.content e (c.lacks_pad.ensures.pad b role c.args.at d e s) (c.in-Ok.ensures.content b holds role c.args.at d e s)
