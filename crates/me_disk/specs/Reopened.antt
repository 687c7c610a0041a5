-- What a depot in memory is opened on again, by what a crash is said to have left.
use Rattle.std.specs.Prelude.{ℕ, ◌-◌, List, [], ◌∷◌, length, take, reverse, nat_lt, Option, Some, if◌then◌else◌}
use Rattle.me_disk.specs.declared.memory.Pick.{Pick}
use Rattle.me_disk.specs.declared.memory.Pick.TheVariants.{Before, After, Torn}
use Rattle.me_disk.specs.Disk.{Image, bytes_of, read_as}
use Rattle.me_disk.specs.Calls.{Call}
use Rattle.me_disk.specs.Calls.Call.{InstallMain, WriteMain, SetMainLen, SyncMain}
use Rattle.me_disk.specs.Limits.{reopened_limits}
use Rattle.me_disk.specs.Memory.{Memory, slots_of, fresh}
use Rattle.me_bytes.specs.Bytes.{overlay}

-- the calls since `Main` was last made safe, by a sync or an install, the newest first
abbrev pub unsynced : List Call → List Call
unsynced [] = []
unsynced (SyncMain ∷ done) = []
unsynced (InstallMain ∷ done) = []
unsynced (c ∷ done) = c ∷ unsynced done

-- the calls up to then
abbrev pub synced : List Call → List Call
synced [] = []
synced (SyncMain ∷ done) = SyncMain ∷ done
synced (InstallMain ∷ done) = InstallMain ∷ done
synced (c ∷ done) = synced done

-- how many bytes it writes into `Main`
abbrev pub main_piece : Call → ℕ
main_piece (WriteMain at bytes) = length bytes
main_piece _ = 0

-- `Main` after a call of which only the first n bytes were written
abbrev pub torn : ℕ → Call → Option (List ℕ) → Option (List ℕ)
torn n (WriteMain at bytes) main = Some (overlay at (take n bytes) (bytes_of main))
torn n _ main = main

-- `Main` after a whole call
abbrev pub whole : Call → Option (List ℕ) → Option (List ℕ)
whole (WriteMain at bytes) main = Some (overlay at bytes (bytes_of main))
whole (SetMainLen n) main = Some (take n (bytes_of main))
whole _ main = main

-- `Main` after these calls in order, up to the first n bytes of what they write into it
abbrev pub replay : ℕ → List Call → Option (List ℕ) → Option (List ℕ)
replay n [] main = main
replay n (c ∷ later) main = if nat_lt n (main_piece c) then torn n c main else replay (n - main_piece c) later (whole c main)

-- `Main` as it was last made safe
abbrev pub kept_main : Image → List Call → Option (List ℕ)
kept_main start done = (slots_of start (synced done)).main

-- What a crash is said to have left: the unsynced writes undone, done, or their first n bytes done.
abbrev pub picked : Pick → Image → List Call → Image
picked Before start done = record { main = kept_main start done; journal = (slots_of start done).journal }
picked After start done = read_as (slots_of start done)
picked (Torn n) start done = record { main = replay n (reverse (unsynced done)) (kept_main start done); journal = (slots_of start done).journal }

-- opened again on that image, with the room that was left
abbrev pub reopened : Pick → Memory → Memory
reopened pick m = fresh (picked pick m.start m.done) (reopened_limits m.limits)
