use Rattle.std.proofs.Common.{◌≡◌, take}
use Rattle.power_rows.specs.Power.{garbled}
use Rattle.power_rows.proofs.disk.garbled.Given as goal

abbrev pub invariant-loop-k : goal.invariant-loop-k
invariant-loop-k l = l.mixed.items ≡ garbled (take l.k l.bytes) l.other
