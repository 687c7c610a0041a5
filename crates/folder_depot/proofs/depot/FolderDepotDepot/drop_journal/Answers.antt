use Rattle.std.proofs.Common.{refl, arith}
use Rattle.me_disk.specs.Calls.Call.{DropJournal}
use Rattle.me_disk.proofs.Runs.{rose_sooner}
use Rattle.folder_depot.proofs.Makes.{ok_does, fails_does, shrunk_fails, shrunk_makes}
use Rattle.folder_depot.proofs.depot.FolderDepotDepot.drop_journal.Goals as goal

pub returns-in_err-settle-clause-does : goal.returns-in_err-settle-clause-does
returns-in_err-settle-clause-does g c =
    let e = c.settle.ensures in
    fails_does DropJournal c.from_residual.result c.from_residual.ensures.0 _ _ _ _ _ _ _ _ (λ f. shrunk_fails DropJournal f tt _ _ e.shrunk)
    e.state e.written e.cause.later c.in_err-settle.ensures.cause.failed

pub returns-in-Ok-clause-does : goal.returns-in-Ok-clause-does
returns-in-Ok-clause-does g c =
    let e = c.settle.ensures in
    ok_does DropJournal _ _ _ _ _ _ _ _ _ (shrunk_makes DropJournal _ tt _ _ _ e.shrunk c.in-Ok.ensures.made) e.state (omega (arith, e.written)) e.cause.later

pub returns-in-Err-clause-does : goal.returns-in-Err-clause-does
returns-in-Err-clause-does g c =
    let e = c.settle.ensures in
    fails_does DropJournal _ refl _ _ _ _ _ _ _ _ (λ f. shrunk_makes DropJournal _ tt _ _ _ e.shrunk c.in-Err.ensures.made)
    e.state e.written (omega (arith, e.cause.later, c.count_fault.ensures.later)) (rose_sooner _ _ _ e.cause.later c.count_fault.ensures.rose)
