-- What a run begins with: the file that stands there, or the file that is made where none does; and what becomes of a file that
-- is made (this project's own).
use Rattle.std.specs.Prelude.{◌≡◌, ◌⊎◌, ℕ, ◌+◌, ◌≤◌, Bool, true, false, IsTrue, IsSome, List, length, Option, Some, None, Result, IfOk, IfErr, OnOk, if◌then◌else◌, ⊤}
use Rattle.me_bytes.specs.Bytes.{IsBytes}
use Rattle.me_disk.specs.Causes.{Rose}
use Rattle.me_disk.specs.Disk.{Disk, Image, Slots, bytes_of, read_as}
use Rattle.me_disk.specs.Steps.{OnlyWork, ReadsOnly}
use Rattle.edit_journal.specs.Damage.{damage_over}
use Rattle.edit_journal.specs.Settled.{IsDamaged, Settles, Stands}
use Rattle.recovery.specs.Recovered.{bytes_to_redo}
use Rattle.me_generate.specs.Stated.{stated}
use Rattle.me_generate.specs.declared.making.MakeFault.{MakeFault}
use Rattle.me_generate.specs.declared.making.MakeFault.TheVariants as make
use Rattle.metaedit_top.specs.declared.outcome.Finished.{Finished}
use Rattle.metaedit_top.specs.declared.outcome.Stop.{Stop}
use Rattle.metaedit_top.specs.declared.outcome.Stop.TheVariants as stop
use Rattle.metaedit_top.specs.declared.words.Request.{Request}
use Rattle.metaedit_top.specs.Asked.{run_bytes, why_in}
use Rattle.metaedit_top.specs.Run.{AreBytes, HasRun, HasTold, IsEither, IsOneStop, IsRefused, IsTooLarge, LeavesAt, OneImage, StandsNew, Stops, has_journal}
use Rattle.metaedit_top.specs.Told.{Fixes}
use Rattle.metaedit_top.specs.Words.{makes_file}

-- ---- what a run begins with

-- the file that a request makes
abbrev pub made_of : Request → List ℕ
made_of q = stated q.kind q.n

-- the state stands for this file; or for none, and this is the one that is made
abbrev pub BeginsBy : Bool → Request → Image → List ℕ → Type 0
BeginsBy true q i o = Settles None i × (o ≡ made_of q)
BeginsBy false q i o = Settles (Some o) i

-- the file with which a request begins, where this state stands there
abbrev pub Begins : Request → Image → List ℕ → Type 0
Begins q i o = BeginsBy (makes_file q.command) q i o

-- A request begins with a file, of which this holds.
abbrev pub OnBegun : Request → Disk → (List ℕ → Type 0) → Type 0
OnBegun q d P = IsTrue d.tells → (o : List ℕ) × Begins q (read_as d.slots) o × P o

-- how many bytes are written before the edit: those of the file that is made, or of a journal that is redone
abbrev pub bytes_before : Request → Disk → List ℕ → ℕ
bytes_before q d o = if makes_file q.command then length o else bytes_to_redo (read_as d.slots)

-- ---- what a crash may leave

-- no file was there, and the image stands for the one that is made or for that edited
abbrev pub StandsMade : Request → Option (List ℕ) → Image → Type 0
StandsMade q None i = IsEither q (made_of q) i
StandsMade q (Some o) i = ⊥

-- the image stands for what a request makes of what stood there
abbrev pub StandsIn : Bool → Request → Option (List ℕ) → Image → Type 0
StandsIn true q f i = StandsMade q f i
StandsIn false q f i = StandsNew q f i

abbrev pub StandsBy : Request → Option (List ℕ) → Image → Type 0
StandsBy q f i = StandsIn (makes_file q.command) q f i

-- What a crash may leave of a run: what stands for the same as the state at entry, or for what the request makes of it.
abbrev pub MayStandBy : Request → Disk → Image → Type 0
MayStandBy q d i =
    IsTrue d.tells → (f : Option (List ℕ)) → Settles f (read_as d.slots) → AreBytes f → Settles f i ⊎ StandsBy q f i

-- ---- why a file isn't made, and what is left then

-- no file is there, but a journal is, in which this is the place of the damage
pub record IsLeftover (s : Slots) (at : ℕ) : Type 0 where
  pub none : s.main ≡ None
  pub journal : IsSome s.journal
  pub place : damage_over None (bytes_of s.journal) ≡ Some at

-- neither a file nor a journal is there
pub record IsClear (s : Slots) : Type 0 where
  pub main : s.main ≡ None
  pub journal : s.journal ≡ None

-- the cause of a stop
abbrev pub MakeStops : Request → Disk → Disk → Stop → Type 0
MakeStops q old new stop.Depot = Rose old.faults new.faults
MakeStops q old new stop.NoFile = ⊥
MakeStops q old new stop.FileThere = IsTrue old.tells → IsSome old.slots.main
MakeStops q old new (stop.Damaged at) = IsTrue old.tells → IsLeftover old.slots at
MakeStops q old new (stop.NotSupported w) =
    IsTrue old.tells → IsClear old.slots × (why_in (made_of q) ≡ Some w)
MakeStops q old new (stop.RuleBroken b) = IsTrue old.tells → IsClear old.slots × IsRefused q.rules q.edit (made_of q) b
MakeStops q old new (stop.TooLarge size limit) =
    IsTrue old.tells → IsClear old.slots × IsTooLarge q.rules q.edit (made_of q) (record { size = size; limit = limit })
MakeStops q old new stop.Memory = ⊤

-- the file was made and stands there, and nothing else was done
pub record HasMade (o : List ℕ) (old new : Disk) : Type 0 where
  pub stands : Stands o new
  pub no_work : IsTrue old.tells → new.slots.work ≡ None
  pub written : new.written ≡ old.written + length o

-- the file wasn't made
pub record IsUnmade (o : List ℕ) (old new : Disk) : Type 0 where
  pub only : OnlyWork old new
  pub written : new.written ≤ old.written + length o

-- What a stop leaves. An edit of the made file that is refused leaves the made file.
abbrev pub MakeLeaves : Request → Disk → Disk → Stop → Type 0
MakeLeaves q old new stop.Depot =
    IsTrue old.tells → new.written ≤ old.written + (length (made_of q) + run_bytes q (made_of q))
MakeLeaves q old new stop.NoFile = ReadsOnly old new
MakeLeaves q old new stop.FileThere = ReadsOnly old new
MakeLeaves q old new (stop.Damaged at) = ReadsOnly old new
MakeLeaves q old new (stop.NotSupported w) = HasMade (made_of q) old new
MakeLeaves q old new (stop.RuleBroken b) = HasMade (made_of q) old new
MakeLeaves q old new (stop.TooLarge size limit) = HasMade (made_of q) old new
MakeLeaves q old new stop.Memory = IsUnmade (made_of q) old new ⊎ HasMade (made_of q) old new

-- a file that isn't made
abbrev pub stop_of_make : MakeFault → Stop
stop_of_make make.Depot = stop.Depot
stop_of_make make.Memory = stop.Memory

-- What a file that is to be made, and its edit, come to, up to the output: what is told, or why it stops. Where there was one
-- image at entry: what a crash at any moment leaves, and that what the depot reads as is again its one image.
pub record MakesFile (q : Request) (old new : Disk) (r : Result Finished Stop) : Type 0 where
  pub ends : IfOk r (λ f. OnBegun q old (λ o. IsBytes o
      → HasRun q o (bytes_before q old o) old new × HasTold q o (has_journal old) f))
  pub fixes : IfOk r (λ f. Fixes q.command f.summary)
  pub stops : IfErr r (MakeStops q old new)
  pub leaves : IfErr r (MakeLeaves q old new)
  pub crash : OneImage old → (i : Image) → new.since old.clock i → MayStandBy q old i
  pub damaged : IsTrue old.tells → IsDamaged (read_as old.slots) → ReadsOnly old new
  pub there : IsTrue old.tells → IsSome old.slots.main → ReadsOnly old new
  pub again_done : OneImage old → OnOk r (OneImage new)
  pub again : OneImage old → IfErr r (λ s. IsOneStop s new)
  pub tells : new.tells ≡ old.tells
  pub later : old.faults ≤ new.faults

-- ---- a request, whether it makes a file or not

-- a want of memory is told only where the device counted no fault
abbrev pub IsCounted : Disk → Disk → Stop → Type 0
IsCounted old new stop.Memory = new.faults ≡ old.faults
IsCounted old new _ = ⊤

-- the cause of a stop
abbrev pub StopsIn : Bool → Request → Disk → Disk → Stop → Type 0
StopsIn true q old new s = MakeStops q old new s × IsCounted old new s
StopsIn false q old new s = Stops q old new s

abbrev pub StopsBy : Request → Disk → Disk → Stop → Type 0
StopsBy q old new s = StopsIn (makes_file q.command) q old new s

-- what a stop leaves
abbrev pub LeavesIn : Bool → Request → Disk → Disk → Stop → Type 0
LeavesIn true q old new s = MakeLeaves q old new s
LeavesIn false q old new s = LeavesAt q old new s

abbrev pub LeavesBy : Request → Disk → Disk → Stop → Type 0
LeavesBy q old new s = LeavesIn (makes_file q.command) q old new s

-- What a request comes to, up to the output.
pub record Carries (q : Request) (old new : Disk) (r : Result Finished Stop) : Type 0 where
  pub ends : IfOk r (λ f. OnBegun q old (λ o. IsBytes o
      → HasRun q o (bytes_before q old o) old new × HasTold q o (has_journal old) f))
  pub fixes : IfOk r (λ f. Fixes q.command f.summary)
  pub stops : IfErr r (StopsBy q old new)
  pub leaves : IfErr r (LeavesBy q old new)
  pub crash : OneImage old → (i : Image) → new.since old.clock i → MayStandBy q old i
  pub damaged : IsTrue old.tells → IsDamaged (read_as old.slots) → ReadsOnly old new
  pub there : makes_file q.command ≡ true → IsTrue old.tells → IsSome old.slots.main → ReadsOnly old new
  pub again_done : OneImage old → OnOk r (OneImage new)
  pub again : OneImage old → IfErr r (λ s. IsOneStop s new)
  pub tells : new.tells ≡ old.tells
  pub later : old.faults ≤ new.faults
