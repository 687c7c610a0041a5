use Rattle.folder_depot.proofs.Works.{sync_makes, sync_fails}
use Rattle.folder_depot.proofs.calls.sync_work.Goals as goal

pub returns-in-Ok-clause-made : goal.returns-in-Ok-clause-made
returns-in-Ok-clause-made g c = sync_makes _ _ _ c.in-Ok.ensures

pub returns-in-Err-clause-made : goal.returns-in-Err-clause-made
returns-in-Err-clause-made g c = sync_fails _ _ _ _ c.in-Err.ensures c.give_up.ensures.work
