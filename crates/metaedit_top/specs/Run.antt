-- How a run ends: what it leaves of the file and of what a crash may leave, what it tells, and why it stops.
use Rattle.std.specs.Prelude.{◌≡◌, ◌⊎◌, ℕ, ◌+◌, ◌≤◌, Bool, true, false, IsTrue, is_some, List, length, take, Option, Some, None, Result, Ok, IfOk, IfErr, OnOk, ⊤}
use Rattle.me_bytes.specs.Bytes.{IsBytes}
use Rattle.me_disk.specs.Causes.{Rose}
use Rattle.me_disk.specs.Disk.{Disk, Image, Leaves, Only, read_as, bytes_of}
use Rattle.me_disk.specs.Steps.{ReadsOnly}
use Rattle.me_disk.specs.Holds.{Holds}
use Rattle.edit_journal.specs.Settled.{IsDamaged, Settles, Stands}
use Rattle.recovery.specs.Recovered.{IsBroken, bytes_to_redo}
use Rattle.recovery.specs.Redo.{SettlesAlike}
use Rattle.part_tree.specs.declared.field.Broken.{Broken}
use Rattle.part_tree.specs.declared.field.EditItem.{EditItem}
use Rattle.part_tree.specs.declared.field.RuleSet.{RuleSet}
use Rattle.part_tree.specs.Large.{Size}
use Rattle.metaedit_top.specs.declared.outcome.Stop.{Stop}
use Rattle.metaedit_top.specs.declared.outcome.Stop.TheVariants as stop
use Rattle.metaedit_top.specs.declared.words.Request.{Request}
use Rattle.metaedit_top.specs.declared.outcome.Finished.{Finished}
use Rattle.metaedit_top.specs.Asked.{Accepts, IsEdited, broken_by, edits_file, new_of, reads_file, run_bytes, too_large, why_in}
use Rattle.metaedit_top.specs.Told.{Fixes, Reports, summary}

-- ---- what a crash may leave

-- What the depot reads as is the one image that a crash now may leave. What is said of crashes is said where it was so
-- at entry.
abbrev pub OneImage : Disk → Type 0
OneImage d = Only (read_as d.slots) d

-- what stands there is bytes
abbrev pub AreBytes : Option (List ℕ) → Type 0
AreBytes None = ⊤
AreBytes (Some o) = IsBytes o

-- the image stands for the file that the request makes of this one, and nothing stands against that
pub record IsNew (q : Request) (o : List ℕ) (i : Image) : Type 0 where
  pub accepts : Accepts q o
  pub settles : Settles (Some (new_of q o)) i

-- the same where a file stands there
abbrev pub StandsNew : Request → Option (List ℕ) → Image → Type 0
StandsNew q None i = ⊥
StandsNew q (Some o) i = IsNew q o i

-- What a crash may leave of a run: what stands for the same as the state at entry, or for the new file.
abbrev pub MayStand : Request → Disk → Image → Type 0
MayStand q d i =
    IsTrue d.tells → (f : Option (List ℕ)) → Settles f (read_as d.slots) → AreBytes f → Settles f i ⊎ StandsNew q f i

-- the image stands for this file or for the new one
abbrev pub IsEither : Request → List ℕ → Image → Type 0
IsEither q o i = Settles (Some o) i ⊎ IsNew q o i

-- the same of a settled depot's file
abbrev pub MayLeave : Request → Disk → Image → Type 0
MayLeave q d i = (o : List ℕ) → Holds d o → IsBytes o → IsEither q o i

-- ---- what a run leaves that came to its end

-- The new file stands there, with no journal beside it; it is the old one edited; and these bytes were written, of which
-- a recovery before it wrote some.
pub record HasRun (q : Request) (o : List ℕ) (redone : ℕ) (old new : Disk) : Type 0 where
  pub accepts : Accepts q o
  pub stands : Stands (new_of q o) new
  pub no_work : new.slots.work ≡ None
  pub edited : IsEdited q o
  pub written : new.written ≡ old.written + (redone + run_bytes q o)

-- What it tells; a journal stood beside the file before, or not.
pub record HasTold (q : Request) (o : List ℕ) (stood : Bool) (f : Finished) : Type 0 where
  pub summary_is : f.summary ≡ summary q o
  pub report_is : Reports q o stood f.text

-- ---- why a run stops before its output

-- a size of the new file passes its limit, and nothing else stands against the edit
pub record IsTooLarge (rules : RuleSet) (e : List EditItem) (o : List ℕ) (size : Size) : Type 0 where
  pub supported : why_in o ≡ None
  pub unbroken : broken_by rules e o ≡ None
  pub large : too_large o e ≡ Some size

-- the file is supported, and this is the first rule that the edit breaks
pub record IsRefused (rules : RuleSet) (e : List EditItem) (o : List ℕ) (b : Broken) : Type 0 where
  pub supported : why_in o ≡ None
  pub broken : broken_by rules e o ≡ Some b

-- The file that the state at entry stands for stands there. A journal that stood beside it is redone, and no file that
-- was begun is left. Where there was one image at entry, a crash at any moment would have left what stands for the same.
pub record HasSettled (old new : Disk) : Type 0 where
  pub stands : Stands (bytes_of new.slots.main) new
  pub settles : IsTrue old.tells → Settles (Some (bytes_of new.slots.main)) (read_as old.slots)
  pub no_work : IsTrue old.tells → new.slots.work ≡ None
  pub written : IsTrue old.tells → new.written ≡ old.written + bytes_to_redo (read_as old.slots)
  pub crash : OneImage old → Leaves (SettlesAlike (read_as old.slots)) old new

-- The depot's state stands for a file, of which this holds.
abbrev pub OnFile : Disk → (List ℕ → Type 0) → Type 0
OnFile d P = IsTrue d.tells → (o : List ℕ) × Settles (Some o) (read_as d.slots) × P o

-- the cause of a stop, by what stood there at the start
abbrev pub Stops : Request → Disk → Disk → Stop → Type 0
Stops q old new stop.Depot = Rose old.faults new.faults
Stops q old new stop.NoFile = IsTrue old.tells → old.slots.main ≡ None
Stops q old new stop.FileThere = ⊥
Stops q old new (stop.Damaged at) = IsTrue old.tells → IsBroken old.slots at
Stops q old new (stop.NotSupported w) = (reads_file q.command ≡ true) × OnFile old (λ o. why_in o ≡ Some w)
Stops q old new (stop.RuleBroken b) = (edits_file q.command ≡ true) × OnFile old (λ o. IsRefused q.rules q.edit o b)
Stops q old new (stop.TooLarge size limit) =
    (edits_file q.command ≡ true)
    × OnFile old (λ o. IsBytes o → IsTooLarge q.rules q.edit o (record { size = size; limit = limit }))
Stops q old new stop.Memory = new.faults ≡ old.faults

-- at most the bytes of the run were written
abbrev pub WroteAtMost : Request → Disk → Disk → Type 0
WroteAtMost q old new =
    (o : List ℕ) → IsTrue old.tells → Settles (Some o) (read_as old.slots) → IsBytes o
    → new.written ≤ old.written + (bytes_to_redo (read_as old.slots) + run_bytes q o)

-- A stop leaves what stood there: at most a journal that stood beside the file is redone. A fault of the device leaves
-- at most what the run would have written.
abbrev pub LeavesAt : Request → Disk → Disk → Stop → Type 0
LeavesAt q old new stop.Depot = WroteAtMost q old new
LeavesAt q old new stop.NoFile = ReadsOnly old new
LeavesAt q old new stop.FileThere = ReadsOnly old new
LeavesAt q old new (stop.Damaged at) = ReadsOnly old new
LeavesAt q old new (stop.NotSupported w) = HasSettled old new
LeavesAt q old new (stop.RuleBroken b) = HasSettled old new
LeavesAt q old new (stop.TooLarge size limit) = HasSettled old new
LeavesAt q old new stop.Memory = HasSettled old new

-- whether a journal stands beside the file
abbrev pub has_journal : Disk → Bool
has_journal d = is_some d.slots.journal

-- after a device fault the depot has to be opened anew; else what it reads as is again its one image
abbrev pub IsOneStop : Stop → Disk → Type 0
IsOneStop stop.Depot new = ⊤
IsOneStop _ new = OneImage new

-- ---- a run up to its output

-- What it answers and leaves: it came to its end and is told, or it stopped for a cause. Where there was one image at
-- entry: what a crash at any moment leaves, and that what the depot reads as is again its one image.
pub record Runs (q : Request) (old new : Disk) (r : Result Finished Stop) : Type 0 where
  pub ends : IfOk r (λ f. OnFile old (λ o. IsBytes o
      → HasRun q o (bytes_to_redo (read_as old.slots)) old new × HasTold q o (has_journal old) f))
  pub fixes : IfOk r (λ f. Fixes q.command f.summary)
  pub stops : IfErr r (Stops q old new)
  pub leaves : IfErr r (LeavesAt q old new)
  pub crash : OneImage old → (i : Image) → new.since old.clock i → MayStand q old i
  pub damaged : IsTrue old.tells → IsDamaged (read_as old.slots) → ReadsOnly old new
  pub again_done : OneImage old → OnOk r (OneImage new)
  pub again : OneImage old → IfErr r (λ s. IsOneStop s new)
  pub tells : new.tells ≡ old.tells
  pub later : old.faults ≤ new.faults
