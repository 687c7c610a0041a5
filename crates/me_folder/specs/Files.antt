-- A file, and what a power cut may leave of its bytes.
use Rattle.std.specs.Prelude.{◌≡◌, ℕ, ◌-◌, Bool, true, false, List, [], ◌∷◌, ◌++◌, length, take, replicate}
use Rattle.me_bytes.specs.Bytes.{overlay}
use Rattle.me_disk.specs.Calls.{TornBytes, CutBytes}

-- what is done to a file's bytes
pub data Change : Type 0 where
  Wrote : ℕ → List ℕ → Change
  Resized : ℕ → Change

-- a file: what it held when it was last made safe, what was done to it since, the newest first, and whether a sync of it failed
pub record File : Type 0 where
  pub safe : List ℕ
  pub changes : List Change
  pub doubted : Bool

-- these bytes, with zeros behind them up to this length
abbrev pub padded : ℕ → List ℕ → List ℕ
padded n b = b ++ replicate (n - length b) 0

-- what a read gives after a change, by what it gave before
abbrev pub changed : Change → List ℕ → List ℕ
changed (Wrote at bytes) b = overlay at bytes (padded at b)
changed (Resized n) b = take n (padded n b)

-- after all of them, the newest first
abbrev pub changed_all : List Change → List ℕ → List ℕ
changed_all [] b = b
changed_all (c ∷ cs) b = changed c (changed_all cs b)

-- what a read of it gives
abbrev pub content : File → List ℕ
content f = changed_all f.changes f.safe

-- What a power cut may leave after a change, by what one before it may have left: any bytes in the written range and
-- past the old end, the same elsewhere; or some length from the new one on, the same below it.
abbrev pub MayChange : Change → List ℕ → List ℕ → Type 0
MayChange (Wrote at bytes) = TornBytes at (length bytes)
MayChange (Resized n) = CutBytes n

-- after all of them
abbrev pub MayBecome : List Change → List ℕ → List ℕ → Type 0
MayBecome [] b l = l ≡ b
MayBecome (c ∷ cs) b l = (k : List ℕ) × MayBecome cs b k × MayChange c k l

-- a new file, which is empty
abbrev pub new_file : File
new_file = record { safe = []; changes = []; doubted = false }

-- the file after a change
abbrev pub with_change : Change → File → File
with_change c f = record { safe = f.safe; changes = c ∷ f.changes; doubted = f.doubted }

-- after these bytes were written from a place on
abbrev pub wrote : ℕ → List ℕ → File → File
wrote at bytes f = with_change (Wrote at bytes) f

-- at its end
abbrev pub appended : List ℕ → File → File
appended bytes f = wrote (length (content f)) bytes f

-- after it got this length
abbrev pub resized : ℕ → File → File
resized n f = with_change (Resized n) f

-- after a sync, where none of it failed before
abbrev pub synced : Bool → File → File
synced true f = f
synced false f = record { safe = content f; changes = []; doubted = false }

-- After a sync. Where one failed before, the system may have forgotten what it was to write, and no later sync makes it safe.
abbrev pub made_safe : File → File
made_safe f = synced f.doubted f

-- after a sync that failed
abbrev pub doubt : File → File
doubt f = record { safe = f.safe; changes = f.changes; doubted = true }
