use Rattle.folder_depot.proofs.Works.{dropped}
use Rattle.folder_depot.proofs.calls.drop_work.Goals as goal

pub returns-clause-made : goal.returns-clause-made
returns-clause-made g c = dropped c.clear.result _ _ c.clear.ensures.cleared c.clear.ensures.gone
