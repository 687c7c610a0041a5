-- What a depot tells of its file.
use Rattle.std.specs.Prelude.{◌≡◌, ℕ, ◌≤◌, List, length, IsTrue}
use Rattle.me_disk.specs.Disk.{Disk, bytes_of}

-- the depot tells that its file is these bytes
pub record Holds (d : Disk) (b : List ℕ) : Type 0 where
  pub tells : IsTrue d.tells
  pub bytes : bytes_of d.slots.main ≡ b

-- a place lies inside the file, where that is told
abbrev pub Inside : ℕ → Disk → Type 0
Inside end d = (b : List ℕ) → Holds d b → end ≤ length b
