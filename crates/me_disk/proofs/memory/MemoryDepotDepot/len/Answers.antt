use Rattle.me_disk.proofs.Counted.{read_counts}
use Rattle.me_disk.proofs.memory.MemoryDepotDepot.len.Goals as goal

pub returns-clause-counted : goal.returns-clause-counted
returns-clause-counted c = read_counts _ _ _ _ c.self.view_is c.len.ensures.made
