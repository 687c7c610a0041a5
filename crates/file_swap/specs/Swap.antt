-- A swap as its callers see it, and what a run of it leaves.
use Rattle.std.specs.Prelude.{◌≡◌, ◌≢◌, ℕ, ◌+◌, ◌-◌, ◌≤◌, min, Bool, false, IsTrue, List, [], Option, None, Result, OnOk, Some}
use Rattle.part_tree.specs.declared.plan.Plan.{Plan}
use Rattle.file_swap.specs.declared.machine.Turn.{Turn}
use Rattle.file_swap.specs.declared.machine.Turn.TheVariants.{Fault}
use Rattle.me_disk.specs.declared.depot.DepotFault.{DepotFault}
use Rattle.me_disk.specs.Disk.{Image, Disk, Leaves, Only, plain}
use Rattle.me_disk.specs.Steps.{Counted, Writes, HasCause}
use Rattle.edit_journal.specs.Settled.{Stands}
use Rattle.file_swap.specs.Steps.{bytes_by, bytes_written, calls}
use Rattle.part_tree.specs.Plans.{applied, Belongs}
use Rattle.file_swap.specs.Midway.{Midway, Phase, SettlesEither, held_at}

-- Its plan, how many calls it has made, what it holds of the file, and whether a call has failed.
pub record Swapping : Type 0 where
  pub plan : Plan
  pub made : ℕ
  pub held : List ℕ
  pub failed : Bool

-- how many calls its next turn makes: one, and none after the last
abbrev pub next_calls : Swapping → ℕ
next_calls s = min 1 (calls s.plan - s.made)

-- before the first call
abbrev pub fresh : Plan → Swapping
fresh p = record { plan = p; made = 0; held = []; failed = false }

-- Its calls so far were made on this file: no call has failed, and where the depot tells what it holds, the plan is one for
-- this file and the swap holds what its last call read.
pub record Underway (s : Swapping) (o : List ℕ) (d : Disk) : Type 0 where
  pub unfailed : s.failed ≡ false
  pub belongs : IsTrue d.tells → Belongs s.plan o
  pub held : IsTrue d.tells → s.held ≡ held_at s.plan o s.made
  pub midway : Midway s.plan o s.made d

-- each image that a crash now may leave is one after the calls made so far
abbrev pub IsSure : Swapping → List ℕ → Disk → Type 0
IsSure s o d = (i : Image) → d.images i → Phase s.plan o s.made i

-- a turn writes at most so many bytes, and exactly so many unless it answers Fault
pub record TurnWrites (n : ℕ) (old new : Disk) (turn : Turn) : Type 0 where
  pub least : old.written ≤ new.written
  pub most : new.written ≤ old.written + n
  pub exact : turn ≢ Fault → new.written ≡ old.written + n

-- A run from old to new on this file. At Ok the new file stands, and no `Work` is left. Where each image at the start
-- was one after the calls made so far, each that a crash at some moment of the run might have left stands for the old
-- file or for the new one, and at Ok a crash leaves the new file alone.
pub record Runs (s : Swapping) (o : List ℕ) (old new : Disk) (result : Result Unit DepotFault) : Type 0 where
  pub stands : OnOk result (Stands (applied s.plan o) new)
  pub work : OnOk result (IsTrue new.tells → new.slots.work ≡ None)
  pub crash : IsSure s o old → Leaves (SettlesEither o (applied s.plan o)) old new
  pub only : IsSure s o old → OnOk result (Only (plain (Some (applied s.plan o))) new)
  pub tells : new.tells ≡ old.tells
  pub written : Writes (bytes_written s.plan - bytes_by s.plan s.made) old new result
  pub cause : HasCause old new result

-- a run makes at most the calls that were left, and all of them at Ok
pub record RunCounts (left : ℕ) (old new : Option ℕ) (result : Result Unit DepotFault) : Type 0 where
  pub most : (n : ℕ) × (n ≤ left) × Counted n old new
  pub exact : OnOk result (Counted left old new)
