-- What a recovery answers, writes and leaves.
use Rattle.std.specs.Prelude.{◌≡◌, ◌≢◌, ℕ, ◌+◌, ◌≤◌, IsTrue, IsSome, is_some, if◌then◌else◌, List, Option, Some, None, Result, Err, ⊤}
use Rattle.part_tree.specs.declared.plan.Patch.{Patch}
use Rattle.me_disk.specs.declared.depot.WorkState.TheVariants.{Closed}
use Rattle.me_disk.specs.Disk.{Slots, Image, Disk, Only, read_as, bytes_of}
use Rattle.edit_journal.specs.Journal.{Journal}
use Rattle.edit_journal.specs.Damage.{damage_over}
use Rattle.edit_journal.specs.Patches.{patches_in}
use Rattle.edit_journal.specs.Settled.{Settles, StandsAlone, IsDamaged}
use Rattle.part_tree.specs.Patches.{all_bytes}
use Rattle.recovery.specs.declared.whole.Recovered.{Recovered}
use Rattle.recovery.specs.declared.whole.Recovered.TheVariants.{Nothing, Redone}
use Rattle.recovery.specs.declared.whole.RecoverFault.{RecoverFault}
use Rattle.recovery.specs.declared.whole.RecoverFault.TheVariants.{NoFile, Damaged, Depot}

-- what is said of the place of a damage
abbrev pub OnRecoverDamage : RecoverFault → (ℕ → Type 0) → Type 0
OnRecoverDamage NoFile P = ⊤
OnRecoverDamage (Damaged at) P = P at
OnRecoverDamage Depot P = ⊤

-- what is said of the new length
abbrev pub OnRedone : Recovered → (ℕ → Type 0) → Type 0
OnRedone Nothing P = ⊤
OnRedone (Redone len) P = P len

-- A refusal that says something of the file: it is absent, or the journal is damaged.
abbrev pub IsRefusal : RecoverFault → Type 0
IsRefusal NoFile = ⊤
IsRefusal (Damaged at) = ⊤
IsRefusal Depot = ⊥

-- the file and a journal are there, and together they stand for no file
pub record IsBroken (s : Slots) (at : ℕ) : Type 0 where
  pub file : IsSome s.main
  pub journal : IsSome s.journal
  pub place : damage_over s.main (bytes_of s.journal) ≡ Some at
  pub nothing : IsDamaged (read_as s)

-- the file and a journal are there, and the journal makes a file of this length
pub record IsRedone (s : Slots) (len : ℕ) : Type 0 where
  pub file : IsSome s.main
  pub journal : IsSome s.journal
  pub old : ℕ
  pub patches : List Patch
  pub is : Journal (bytes_of s.journal) old len patches
  pub undamaged : damage_over s.main (bytes_of s.journal) ≡ None

-- the bytes of the patches of a journal that makes a file of this one, and none of one that doesn't
abbrev pub bytes_over : Option (List ℕ) → Option (List ℕ) → ℕ
bytes_over m None = 0
bytes_over m (Some j) = if is_some (damage_over m j) then 0 else all_bytes (patches_in j)

-- how many bytes a recovery of this image writes
abbrev pub bytes_to_redo : Image → ℕ
bytes_to_redo i = bytes_over i.main i.journal

-- it writes at most so many bytes, and exactly so many unless the device failed
pub record RecoverWrites (n : ℕ) (old new : Disk) (result : Result Recovered RecoverFault) : Type 0 where
  pub least : old.written ≤ new.written
  pub most : new.written ≤ old.written + n
  pub exact : result ≢ Err Depot → new.written ≡ old.written + n

-- The file is the one that the state at entry stands for, and no journal and no `Work` is left beside it. Where what the
-- depot read as was its only image, the file stands alone.
pub record Recovers (old new : Disk) : Type 0 where
  pub file : IsTrue new.tells → IsSome new.slots.main
  pub journal : IsTrue new.tells → new.slots.journal ≡ None
  pub state : new.work_state ≡ Closed
  pub alone : Only (read_as old.slots) old → StandsAlone (bytes_of new.slots.main) new
  pub settles : IsTrue old.tells → Settles (Some (bytes_of new.slots.main)) (read_as old.slots)
  pub work : IsTrue old.tells → new.slots.work ≡ None
