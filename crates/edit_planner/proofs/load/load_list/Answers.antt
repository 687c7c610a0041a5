use Rattle.edit_planner.proofs.Stands.{read_readable}
use Rattle.edit_planner.proofs.load.load_list.Goals as goal

pub returns-clause-readable : goal.returns-clause-readable
returns-clause-readable g c = read_readable _ c.in-Ok-read_info.list c.in-Ok-read_info.ensures.list
