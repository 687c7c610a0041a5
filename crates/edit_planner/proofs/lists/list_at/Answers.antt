use Rattle.std.proofs.Common.{◌∙◌, sym}
use Rattle.edit_planner.proofs.InfoLists.{list_now}
use Rattle.edit_planner.proofs.lists.list_at.Goals as goal

pub returns-clause-cell : goal.returns-clause-cell
returns-clause-cell c = list_now c.args.homed.now c.args.n c.args.cell.now c.in-Listed.list c.in-Ok.content c.in-Listed.is (sym c.is_concerned.ensures ∙ c.if-not-is_concerned.false) c.in-Ok.ensures.content
