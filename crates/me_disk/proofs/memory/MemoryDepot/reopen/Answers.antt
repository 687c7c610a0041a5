use Rattle.std.proofs.Common.{subst, sym}
use Rattle.me_disk.specs.Disk.{read_as}
use Rattle.me_disk.specs.Memory.{Memory, MayLeave, slots_of}
use Rattle.me_disk.specs.Store.{memory_of}
use Rattle.me_disk.proofs.Reopened.{picked_may}
use Rattle.me_disk.proofs.memory.MemoryDepot.reopen.Goals as goal

pub returns-clause-image : goal.returns-clause-image
returns-clause-image c =
    let inside = memory_of c.self.inside.store in
    let new = memory_of c.reopen.new.self in
    let here : MayLeave inside.start inside.done (read_as (slots_of new.start new.done))
    = subst (λ (m : Memory). MayLeave inside.start inside.done (read_as (slots_of m.start m.done))) (sym c.reopen.ensures.exact) (picked_may c.args.pick inside.start inside.done c.self.invariant.log.inside) in
    subst (λ (m : Memory). MayLeave m.start m.done (read_as (slots_of new.start new.done))) c.self.view_is here
