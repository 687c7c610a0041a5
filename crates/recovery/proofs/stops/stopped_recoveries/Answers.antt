use Rattle.std.proofs.Common.{refl}
use Rattle.recovery.proofs.Alike.{settles_once}
use Rattle.recovery.proofs.Recovers.{stopped_recoveries}
use Rattle.recovery.proofs.Wrote.{sound_bytes}
use Rattle.recovery.proofs.stops.stopped_recoveries.Goals as goal

pub returns : goal.returns
returns c = record { alike = stopped_recoveries; once = λ i f g a b. settles_once i.main i.journal f g a b; bytes = sound_bytes; plain = λ m. refl }
