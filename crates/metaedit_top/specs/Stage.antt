-- A command on a file that is settled: what it leaves and tells, and why it stops.
use Rattle.std.specs.Prelude.{◌≡◌, ℕ, ◌+◌, ◌≤◌, nat_lt, if◌then◌else◌, Bool, true, IsTrue, IfOk, IfErr, OnOk, List, Some, None, Result, Ok, Err}
use Rattle.me_bytes.specs.Bytes.{IsBytes}
use Rattle.me_disk.specs.Causes.{Rose}
use Rattle.me_disk.specs.Disk.{Disk, Leaves, bytes_of}
use Rattle.me_disk.specs.Holds.{Holds}
use Rattle.me_disk.specs.Steps.{ReadsOnly}
use Rattle.edit_journal.specs.Settled.{Stands}
use Rattle.part_tree.specs.declared.plan.PlanFault.{PlanFault}
use Rattle.part_tree.specs.declared.plan.PlanFault.TheVariants as plan
use Rattle.part_tree.specs.declared.why.ReadFault.{ReadFault}
use Rattle.part_tree.specs.declared.why.ReadFault.TheVariants as read
use Rattle.me_report.specs.declared.show.ReportFault.{ReportFault}
use Rattle.me_report.specs.declared.show.ReportFault.TheVariants as report
use Rattle.recovery.specs.declared.whole.RecoverFault.{RecoverFault}
use Rattle.recovery.specs.declared.whole.RecoverFault.TheVariants as recover
use Rattle.metaedit_top.specs.declared.outcome.Finished.{Finished}
use Rattle.metaedit_top.specs.declared.outcome.Stop.{Stop}
use Rattle.metaedit_top.specs.declared.outcome.Stop.TheVariants as stop
use Rattle.metaedit_top.specs.declared.words.Request.{Request}
use Rattle.metaedit_top.specs.Asked.{edits_file, reads_file, run_bytes, why_in}
use Rattle.metaedit_top.specs.Run.{HasRun, HasTold, IsRefused, IsTooLarge, MayLeave, OneImage}
use Rattle.metaedit_top.specs.Told.{Fixes}

-- The depot's file stands there with no journal beside it, and nothing is left of another.
pub record IsSettled (d : Disk) : Type 0 where
  pub stands : Stands (bytes_of d.slots.main) d
  pub no_work : IsTrue d.tells → d.slots.work ≡ None

-- of a file that the depot holds, this holds
abbrev pub OnHeld : Disk → (List ℕ → Type 0) → Type 0
OnHeld d P = (o : List ℕ) → Holds d o → P o

-- The new file stands there, and this is told.
pub record HasActed (q : Request) (o : List ℕ) (stood : Bool) (old new : Disk) (f : Finished) : Type 0 where
  pub run : HasRun q o 0 old new
  pub told : HasTold q o stood f

-- the cause of a stop, by the file that stands there
abbrev pub ActStops : Request → Disk → Disk → Stop → Type 0
ActStops q old new stop.Depot = Rose old.faults new.faults
ActStops q old new stop.NoFile = ⊥
ActStops q old new stop.FileThere = ⊥
ActStops q old new (stop.Damaged at) = ⊥
ActStops q old new (stop.NotSupported w) = (reads_file q.command ≡ true) × OnHeld old (λ o. why_in o ≡ Some w)
ActStops q old new (stop.RuleBroken b) = (edits_file q.command ≡ true) × OnHeld old (λ o. IsRefused q.rules q.edit o b)
ActStops q old new (stop.TooLarge size limit) =
    (edits_file q.command ≡ true)
    × OnHeld old (λ o. IsBytes o → IsTooLarge q.rules q.edit o (record { size = size; limit = limit }))
ActStops q old new stop.Memory = Unit {0}

-- what is left at a stop: at a fault of the device at most what the run writes was written, and else nothing was
abbrev pub ActLeaves : Request → Disk → Disk → Stop → Type 0
ActLeaves q old new stop.Depot = OnHeld old (λ o. IsBytes o → new.written ≤ old.written + run_bytes q o)
ActLeaves q old new _ = ReadsOnly old new

-- What a command answers and leaves, and what a crash leaves of it where there was one image at entry.
pub record Acts (q : Request) (stood : Bool) (old new : Disk) (r : Result Finished Stop) : Type 0 where
  pub acts : OnHeld old (λ o. IsBytes o → IfOk r (HasActed q o stood old new))
  pub fixes : IfOk r (λ f. Fixes q.command f.summary)
  pub stops : IfErr r (ActStops q old new)
  pub leaves : IfErr r (ActLeaves q old new)
  pub crash : OneImage old → Leaves (MayLeave q old) old new
  pub again : OneImage old → OnOk r (OneImage new)
  pub tells : new.tells ≡ old.tells
  pub later : old.faults ≤ new.faults

-- ---- faults that stop a run

-- a file that isn't read
abbrev pub stop_of_read : ReadFault → Stop
stop_of_read (read.Why w) = stop.NotSupported w
stop_of_read read.Depot = stop.Depot
stop_of_read read.Memory = stop.Memory

-- an edit that isn't planned
abbrev pub stop_of_plan : PlanFault → Stop
stop_of_plan (plan.TooLarge size limit) = stop.TooLarge size limit
stop_of_plan plan.Depot = stop.Depot
stop_of_plan plan.Memory = stop.Memory

-- a file that isn't shown
abbrev pub stop_of_report : ReportFault → Stop
stop_of_report report.Depot = stop.Depot
stop_of_report report.Memory = stop.Memory

-- a file that isn't settled
abbrev pub stop_of_recovery : RecoverFault → Stop
stop_of_recovery recover.NoFile = stop.NoFile
stop_of_recovery (recover.Damaged at) = stop.Damaged at
stop_of_recovery recover.Depot = stop.Depot

-- ---- want of memory

-- the stop that is told, by the device's counts of faults before and after a run: a want of memory only where none rose
abbrev pub counted : ℕ → ℕ → Stop → Stop
counted before after stop.Memory = if nat_lt before after then stop.Depot else stop.Memory
counted before after s = s
