use Rattle.std.proofs.Common.{refl, arith}
use Rattle.me_disk.specs.Calls.Call.{SetMainLen}
use Rattle.me_disk.proofs.Runs.{rose_sooner}
use Rattle.folder_depot.proofs.Makes.{ok_does, fails_does, shrunk_fails}
use Rattle.folder_depot.proofs.Writes.{cut_makes, cut_fails}
use Rattle.folder_depot.proofs.depot.FolderDepotDepot.set_main_len.Goals as goal

pub returns-in_err-settle-clause-does : goal.returns-in_err-settle-clause-does
returns-in_err-settle-clause-does g c =
    let e = c.settle.ensures in
    fails_does (SetMainLen c.args.n) c.from_residual.result c.from_residual.ensures.0 _ _ _ _ _ _ _ _ (λ f. shrunk_fails (SetMainLen c.args.n) f tt _ _ e.shrunk)
    e.state e.written e.cause.later c.in_err-settle.ensures.cause.failed

pub returns-in-Ok-clause-does : goal.returns-in-Ok-clause-does
returns-in-Ok-clause-does g c =
    let e = c.settle.ensures in
    ok_does (SetMainLen c.args.n) _ _ _ _ _ _ _ _ _ (cut_makes c.args.n _ _ _ _ c.requires e.shrunk c.in-Ok.ensures) e.state (omega (arith, e.written)) e.cause.later

pub returns-in-Err-clause-does : goal.returns-in-Err-clause-does
returns-in-Err-clause-does g c =
    let e = c.settle.ensures in
    fails_does (SetMainLen c.args.n) _ refl _ _ _ _ _ _ _ _ (λ f. cut_fails c.args.n f _ _ _ e.shrunk c.in-Err.ensures)
    e.state e.written (omega (arith, e.cause.later, c.count_fault.ensures.later)) (rose_sooner _ _ _ e.cause.later c.count_fault.ensures.rose)
