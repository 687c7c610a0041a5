use Rattle.folder_depot.proofs.Drops.{uncleared_fails, drops}
use Rattle.folder_depot.proofs.calls.drop_journal.Goals as goal

pub returns-in_err-clear-clause-made : goal.returns-in_err-clear-clause-made
returns-in_err-clear-clause-made g c = uncleared_fails c.from_residual.result c.from_residual.ensures.0 _ _ c.clear.ensures.cleared

pub returns-clause-made : goal.returns-clause-made
returns-clause-made g c = drops c.sync_names.result _ _ _ c.clear.ensures.cleared c.in_ok-clear.ensures.gone c.sync_names.ensures
