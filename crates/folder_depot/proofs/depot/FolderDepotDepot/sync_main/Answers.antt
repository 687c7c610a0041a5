use Rattle.folder_depot.proofs.Syncs.{settle_does, file_does}
use Rattle.folder_depot.proofs.depot.FolderDepotDepot.sync_main.Goals as goal

pub returns-then-not-self-clause-does : goal.returns-then-not-self-clause-does
returns-then-not-self-clause-does g c =
    let e = c.settle.ensures in
    settle_does c.settle.result _ _ _ _ _ _ _ _ c.args.self.now.settled c.settle.new.self.settled c.if-not-self.true e.shrunk c.settle.new.self.calm e.settled e.main e.state e.written e.cause

pub returns-in-Ok-clause-does : goal.returns-in-Ok-clause-does
returns-in-Ok-clause-does g c = file_does _ _ _ _ _ _ (c.args.self.now.calm c.if-not-self.false) (c.args.self.now.sound c.if-not-self-2.false) c.in-Ok.ensures
