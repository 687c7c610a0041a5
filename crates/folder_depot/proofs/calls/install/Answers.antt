use Rattle.folder_depot.proofs.Installs.{install_makes, unmoved_fails, unsynced_fails}
use Rattle.folder_depot.proofs.calls.install.Goals as goal

pub returns-in-Ok-sync_names-clause-made : goal.returns-in-Ok-sync_names-clause-made
returns-in-Ok-sync_names-clause-made g c = install_makes c.args.to c.requires.moves _ _ c.requires.safe _ _ c.in-Ok.ensures c.in-Ok-sync_names.ensures

pub returns-in-Err-sync_names-clause-made : goal.returns-in-Err-sync_names-clause-made
returns-in-Err-sync_names-clause-made g c = unsynced_fails c.args.to c.requires.moves _ _ c.requires.safe _ _ _ c.in-Ok.ensures c.in-Err-sync_names.ensures c.give_up.ensures.work

pub returns-in-Err-clause-made : goal.returns-in-Err-clause-made
returns-in-Err-clause-made g c = unmoved_fails c.args.to c.requires.moves _ _ c.requires.safe _ _ c.in-Err.ensures c.give_up-in-Err.ensures.work
