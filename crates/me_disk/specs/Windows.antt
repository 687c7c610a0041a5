-- Bytes of a file that were read ahead.
use Rattle.std.specs.Prelude.{◌≡◌, ◌≤◌, ◌<◌, ◌+◌, ◌^◌, ℕ, List, take, drop}
use Rattle.me_disk.specs.Disk.{Disk}
use Rattle.me_disk.specs.Holds.{Holds}
use Rattle.me_disk.specs.declared.window.Window.{Window}

-- a window holds bytes of the depot's file, where that is told
pub record IsWindow {n : ℕ} (d : Disk) (w : Window n) : Type 0 where
  pub short : w.len ≤ n
  pub small : w.from + w.len < 2 ^ 63
  pub bytes : (b : List ℕ) → Holds d b → take w.len w.bytes ≡ take w.len (drop w.from b)
