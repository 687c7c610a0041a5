-- What a window holds is still there after bytes were read.
use Rattle.std.proofs.Common.{ℕ, sym, ap, subst, ◌∙◌}
use Rattle.std.specs.Prelude.{IsTrue, List}
use Rattle.me_disk.specs.Disk.{Disk, bytes_of}
use Rattle.me_disk.specs.Holds.{Holds}
use Rattle.me_disk.specs.Steps.{ReadsOnly}
use Rattle.me_disk.specs.Windows.{IsWindow}
use Rattle.me_disk.specs.declared.window.Window.{Window}

holds_before : (a b : Disk) (o : List ℕ) → ReadsOnly a b → Holds b o → Holds a o
holds_before a b o reads h = record { tells = subst IsTrue reads.tells h.tells; bytes = ap bytes_of (sym reads.main) ∙ h.bytes }

pub window_stays : {n : ℕ} (a b : Disk) (w : Window n) → ReadsOnly a b → IsWindow a w → IsWindow b w
window_stays a b w reads is = record { short = is.short; small = is.small; bytes = λ o held. is.bytes o (holds_before a b o reads held) }
