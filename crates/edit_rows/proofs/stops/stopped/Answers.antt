use Rattle.std.proofs.Common.{◌≡◌, subst, sym}
use Rattle.me_disk.specs.Disk.{Slots, read_as}
use Rattle.me_disk.specs.Memory.{counts_now, memory_disk}
use Rattle.edit_journal.specs.Settled.{Settles}
use Rattle.edit_rows.proofs.stops.stopped.Goals as goal

pub returns-clause-stands : goal.returns-clause-stands
returns-clause-stands c one tells f stood bytes =
    c.run_told.ensures (c.stop.ensures.only one) (read_as (memory_disk c.reopen.result).slots) (counts_now _ _ _ _ c.reopen.ensures.image) tells f
    (subst (λ (s : Slots). Settles f (read_as s)) (sym c.stop.ensures.slots) stood) bytes
