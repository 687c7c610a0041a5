-- What a depot holds before and after calls that only read.
use Rattle.std.proofs.Common.{◌∙◌, ℕ, List, sym, ap, subst}
use Rattle.std.specs.Prelude.{IsTrue}
use Rattle.me_disk.specs.Disk.{Disk, bytes_of}
use Rattle.me_disk.specs.Holds.{Holds, Inside}
use Rattle.me_disk.specs.Steps.{ReadsOnly}
use Rattle.me_disk.specs.Windows.{IsWindow}
use Rattle.me_disk.specs.declared.window.Window.{Window}

pub holds_back : (old new : Disk) (b : List ℕ) → ReadsOnly old new → Holds new b → Holds old b
holds_back old new b reads h = record { tells = subst IsTrue reads.tells h.tells; bytes = sym (ap bytes_of reads.main) ∙ h.bytes }

pub inside_on : (old new : Disk) (end : ℕ) → ReadsOnly old new → Inside end old → Inside end new
inside_on old new end reads h b holds = h b (holds_back old new b reads holds)

pub window_on : {n : ℕ} (old new : Disk) (w : Window n) → ReadsOnly old new → IsWindow old w → IsWindow new w
window_on old new w reads h = record { short = h.short; small = h.small; bytes = λ b holds. h.bytes b (holds_back old new b reads holds) }
