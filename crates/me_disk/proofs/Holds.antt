-- What a depot holds after calls that only read.
use Rattle.std.proofs.Common.{◌∙◌, ℕ, List, sym, ap, subst}
use Rattle.std.specs.Prelude.{IsTrue}
use Rattle.me_disk.specs.Disk.{Disk, bytes_of}
use Rattle.me_disk.specs.Holds.{Holds}
use Rattle.me_disk.specs.Steps.{ReadsOnly}

pub holds_on : (old new : Disk) (b : List ℕ) → ReadsOnly old new → Holds old b → Holds new b
holds_on old new b reads h = record { tells = subst IsTrue (sym reads.tells) h.tells; bytes = ap bytes_of reads.main ∙ h.bytes }
