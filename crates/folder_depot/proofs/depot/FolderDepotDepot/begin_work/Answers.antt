use Rattle.std.proofs.Common.{refl, arith}
use Rattle.me_disk.specs.Calls.Call.{BeginWork}
use Rattle.folder_depot.proofs.Makes.{ok_does, fault_does}
use Rattle.folder_depot.proofs.depot.FolderDepotDepot.begin_work.Goals as goal

pub returns-in-Ok-clause-does : goal.returns-in-Ok-clause-does
returns-in-Ok-clause-does g c = ok_does BeginWork _ _ _ _ _ _ _ _ _ c.in-Ok.ensures.made refl (omega arith) (omega arith)

pub returns-in-Err-clause-does : goal.returns-in-Err-clause-does
returns-in-Err-clause-does g c = fault_does BeginWork _ _ _ _ _ _ _ _ _ c.in-Err.ensures.made refl refl c.count_fault.ensures.later c.count_fault.ensures.rose
