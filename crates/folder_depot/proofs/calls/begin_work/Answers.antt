use Rattle.me_disk.specs.Calls.Call.{BeginWork}
use Rattle.folder_depot.proofs.Works.{gave_up}
use Rattle.folder_depot.proofs.calls.begin_work.Goals as goal

pub returns-in-Err-clause-made : goal.returns-in-Err-clause-made
returns-in-Err-clause-made g c = gave_up BeginWork tt _ _ _ _ c.make_anew.ensures.work c.give_up.ensures.work
