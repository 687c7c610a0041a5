use Rattle.std.proofs.Common.{refl, sym, ◌∙◌, arith}
use Rattle.me_disk.proofs.Runs.{rose_sooner}
use Rattle.folder_depot.specs.Moves.{install_call}
use Rattle.folder_depot.proofs.Makes.{fails_does, unsettled_does, shrunk_makes}
use Rattle.folder_depot.proofs.Installs.{install_loud, install_ok_does, install_closes}
use Rattle.folder_depot.proofs.depot.FolderDepot.install.Goals as goal

pub returns-then-is_err : goal.returns-then-is_err
returns-then-is_err g c =
    let e = c.settle-settled.ensures in
    let move = c.requires.moves in
    unsettled_does (install_call c.args.to) (install_loud c.args.to move) c.settle-settled.result (sym c.is_err.ensures.value ∙ c.if-is_err.true) _ _ _ _ _ _ _ _ e.shrunk
    (sym (install_closes c.args.to move _)) e.written e.cause

pub returns-in-Ok : goal.returns-in-Ok
returns-in-Ok g c =
    let e = c.settle-settled.ensures in
    install_ok_does c.args.to c.requires.moves _ _ _ _ _ _ _ _ (shrunk_makes (install_call c.args.to) _ (install_loud c.args.to c.requires.moves) _ _ _ e.shrunk c.in-Ok.ensures.made) e.written e.cause.later

pub returns-in-Err : goal.returns-in-Err
returns-in-Err g c =
    let e = c.settle-settled.ensures in
    let move = c.requires.moves in
    fails_does (install_call c.args.to) _ refl _ _ _ _ _ _ _ _ (λ f. shrunk_makes (install_call c.args.to) _ (install_loud c.args.to move) _ _ _ e.shrunk c.in-Err.ensures.made)
    (sym (install_closes c.args.to move _)) e.written (omega (arith, e.cause.later, c.count_fault.ensures.later)) (rose_sooner _ _ _ e.cause.later c.count_fault.ensures.rose)
