-- Recoveries that are stopped, one after another.
use Rattle.std.specs.Prelude.{List, [], ◌∷◌, ⊤}
use Rattle.me_disk.specs.Disk.{Image}
use Rattle.recovery.specs.Redo.{SettlesAlike}

-- each image is left by a recovery that began on the one before it
abbrev pub StoppedAt : Image → List Image → Type 0
StoppedAt e [] = ⊤
StoppedAt e (i ∷ is) = SettlesAlike e i × StoppedAt i is

abbrev pub last_of : Image → List Image → Image
last_of e [] = e
last_of e (i ∷ is) = last_of i is
