use Rattle.folder_depot.proofs.Trees.{work_cleared}
use Rattle.folder_depot.proofs.calls.give_up.Goals as goal

pub returns-clause-work : goal.returns-clause-work
returns-clause-work g c = work_cleared _ _ c.clear.ensures.cleared
