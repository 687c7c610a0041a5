use Rattle.std.proofs.Common.{◌∙◌}
use Rattle.me_disk.specs.declared.depot.Slot.TheVariants.{Main, Journal}
use Rattle.folder_depot.proofs.Trees.{shrunk_synced, shrunk_trans, shrunk_named}
use Rattle.folder_depot.proofs.Syncs.{synced_kept, named_kept, main_not_work, journal_not_work}
use Rattle.folder_depot.proofs.calls.settle.Goals as goal

pub returns-in_err-sync_standing-clause-shrunk : goal.returns-in_err-sync_standing-clause-shrunk
returns-in_err-sync_standing-clause-shrunk g c = shrunk_synced Main _ _ c.sync_standing.ensures.synced

pub returns-in_err-sync_standing-2-clause-shrunk : goal.returns-in_err-sync_standing-2-clause-shrunk
returns-in_err-sync_standing-2-clause-shrunk g c = shrunk_trans _ _ _ (shrunk_synced Main _ _ c.sync_standing.ensures.synced) (shrunk_synced Journal _ _ c.sync_standing-2.ensures.synced)

pub returns-clause-shrunk : goal.returns-clause-shrunk
returns-clause-shrunk g c =
    shrunk_trans _ _ _ (shrunk_trans _ _ _ (shrunk_synced Main _ _ c.sync_standing.ensures.synced) (shrunk_synced Journal _ _ c.sync_standing-2.ensures.synced))
    (shrunk_named c.sync_names.result _ _ c.sync_names.ensures)

pub returns-clause-work : goal.returns-clause-work
returns-clause-work g c =
    named_kept c.sync_names.result _ _ c.sync_names.ensures ∙ synced_kept Journal journal_not_work _ _ c.sync_standing-2.ensures.synced
    ∙ synced_kept Main main_not_work _ _ c.sync_standing.ensures.synced
