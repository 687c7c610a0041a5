-- What is done to a name that may stand for nothing.
use Rattle.std.specs.Prelude.{◌≡◌, ◌⊎◌, Option}
use Rattle.me_disk.specs.declared.depot.Slot.{Slot}
use Rattle.me_folder.specs.Tree.{Tree}
use Rattle.me_folder.specs.Ops.{Did}
use Rattle.me_folder.specs.Ops.Op.{Remove, SyncFile, Doubt}

-- nothing was done, or the name was taken away
abbrev pub Cleared : Slot → Option Tree → Option Tree → Type 0
Cleared name old new = (new ≡ old) ⊎ Did (Remove name) old new

-- nothing was done, or the file was synced, or put in doubt by a sync that failed
abbrev pub Synced : Slot → Option Tree → Option Tree → Type 0
Synced name old new = (new ≡ old) ⊎ (Did (SyncFile name) old new ⊎ Did (Doubt name) old new)
