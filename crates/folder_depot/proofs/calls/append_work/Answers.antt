use Rattle.folder_depot.proofs.Works.{append_makes, append_fails}
use Rattle.folder_depot.proofs.calls.append_work.Goals as goal

pub returns-in-Ok-clause-made : goal.returns-in-Ok-clause-made
returns-in-Ok-clause-made g c = append_makes c.args.bytes.now _ _ _ c.in-Ok.ensures

pub returns-in-Err-clause-made : goal.returns-in-Err-clause-made
returns-in-Err-clause-made g c = append_fails c.args.bytes.now _ _ _ _ c.in-Err.ensures c.give_up.ensures.work
