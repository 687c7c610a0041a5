use Rattle.me_disk.specs.Calls.Call.{BeginWork}
use Rattle.folder_depot.proofs.Trees.{work_cleared}
use Rattle.folder_depot.proofs.Works.{begun, begun_moves, quiet_erred}
use Rattle.folder_depot.proofs.calls.make_anew.Goals as goal

pub returns-in_err-clear-clause-made : goal.returns-in_err-clear-clause-made
returns-in_err-clear-clause-made g c = quiet_erred BeginWork tt c.from_residual.result c.from_residual.ensures.0 _ _ (work_cleared _ _ c.clear.ensures.cleared)

pub returns-in_err-clear-clause-work : goal.returns-in_err-clear-clause-work
returns-in_err-clear-clause-work g c = work_cleared _ _ c.clear.ensures.cleared

pub returns-clause-made : goal.returns-clause-made
returns-clause-made g c = begun c.create.result _ _ _ c.clear.ensures.cleared c.create.ensures

pub returns-clause-work : goal.returns-clause-work
returns-clause-work g c = begun_moves c.create.result _ _ _ c.clear.ensures.cleared c.create.ensures
