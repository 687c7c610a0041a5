-- What a depot is left with on the way to a new file.
use Rattle.std.specs.Prelude.{◌≡◌, ◌⊎◌, ℕ, ◌+◌, ◌≤◌, List, ◌++◌, length, IsTrue, IsSome, Some, None, Result, Err, IfOk, OnOk, OnErr}
use Rattle.me_disk.specs.Causes.{Rose}
use Rattle.me_disk.specs.Disk.{Disk, Image, Leaves, Only, bytes_of, plain}
use Rattle.me_disk.specs.Steps.{OnlyWork}
use Rattle.me_disk.specs.declared.depot.WorkState.TheVariants.{Closed, Open}
use Rattle.me_generate.specs.declared.making.MakeFault.{MakeFault}
use Rattle.me_generate.specs.declared.making.MakeFault.TheVariants as fault

-- `Work` has these bytes more, and no more happened
pub record Grows (bytes : List ℕ) (old new : Disk) : Type 0 where
  pub only : OnlyWork old new
  pub open_still : new.work_state ≡ Open
  pub there : IsTrue old.tells → IsSome old.slots.work → IsSome new.slots.work
  pub work : IsTrue old.tells → bytes_of new.slots.work ≡ bytes_of old.slots.work ++ bytes
  pub written : new.written ≡ old.written + length bytes

-- only `Work` is another, and at most so many bytes were written
pub record Halts (n : ℕ) (old new : Disk) : Type 0 where
  pub only : OnlyWork old new
  pub least : old.written ≤ new.written
  pub most : new.written ≤ old.written + n

-- these bytes were appended, or it stopped on the way
pub record Adds (bytes : List ℕ) (old new : Disk) (result : Result Unit MakeFault) : Type 0 where
  pub ok : OnOk result (Grows bytes old new)
  pub err : OnErr result (Halts (length bytes) old new)
  pub cause : result ≡ Err fault.Depot → Rose old.faults new.faults

-- no file, or this one
abbrev pub IsNoneOr : List ℕ → Image → Type 0
IsNoneOr file i = (i ≡ plain None) ⊎ (i ≡ plain (Some file))

-- the file stands there, and nothing else
pub record Stands (file : List ℕ) (old new : Disk) : Type 0 where
  pub main : IsTrue old.tells → new.slots.main ≡ Some file
  pub journal : new.slots.journal ≡ old.slots.journal
  pub work : IsTrue old.tells → new.slots.work ≡ None
  pub state : new.work_state ≡ Closed
  -- where there was no file, a crash leaves this one
  pub sure : IsTrue old.tells → Only (plain None) old → Only (plain (Some file)) new

-- `Work` is this file, where that is told
abbrev pub Rests : List ℕ → Disk → Type 0
Rests file d = IsTrue d.tells → d.slots.work ≡ Some file

-- `Work` becomes the file, in one step
pub record Installs (old new : Disk) (result : Result Unit MakeFault) : Type 0 where
  pub written : new.written ≡ old.written
  pub ok : (file : List ℕ) → OnOk result (Rests file old → Stands file old new)
  pub leaves : (file : List ℕ) → Rests file old → Only (plain None) old → Leaves (IsNoneOr file) old new
  pub cause : OnErr result ((result ≡ Err fault.Depot) × Rose old.faults new.faults)
  pub faults : old.faults ≤ new.faults
  pub tells : new.tells ≡ old.tells

-- What a call that makes a file leaves.
pub record Makes (file : List ℕ) (old new : Disk) (result : Result ℕ MakeFault) : Type 0 where
  pub faults : old.faults ≤ new.faults
  pub tells : new.tells ≡ old.tells
  -- at Ok the file stands there
  pub len : IfOk result (λ len. len ≡ length file)
  pub stands : OnOk result (Stands file old new)
  -- where there was no file, a crash at any moment leaves none, or this one
  pub leaves : IsTrue old.tells → Only (plain None) old → Leaves (IsNoneOr file) old new
  -- without memory, only `Work` is another
  pub memory : result ≡ Err fault.Memory → OnlyWork old new
  pub least : old.written ≤ new.written
  pub most : new.written ≤ old.written + length file
  pub exact : OnOk result (new.written ≡ old.written + length file)
  pub cause : result ≡ Err fault.Depot → Rose old.faults new.faults
