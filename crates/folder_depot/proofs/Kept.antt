-- Calls of a depot that keep what is there.
use Rattle.std.proofs.Common.{◌≡◌, ℕ, List, refl}
use Rattle.std.specs.Prelude.{Option, Result, Ok, Err, OnOk, IsErr}
use Rattle.std.proofs.lemmas.Bool.{false≢true}
use Rattle.me_disk.specs.declared.depot.DepotFault.{DepotFault}
use Rattle.me_disk.specs.Disk.{Slots, Image, Disk, Only, read_as}
use Rattle.me_disk.specs.Calls.{Call, effect, Crash, MainStays, JournalStays, WorkStays, Sure}
use Rattle.me_disk.specs.Calls.Call.{BeginWork, AppendWork, SyncWork, DropWork, InstallMain, InstallJournal, WriteMain, SetMainLen, SyncMain, DropJournal}
use Rattle.me_disk.specs.Steps.{Quiet, KeepsImages}

pub on_ok : {P : Type 0} (r : Result Unit DepotFault) → P → OnOk r P
on_ok (Ok x) h = h
on_ok (Err e) h = tt

-- what holds of each fault holds of an answer that is one
pub on_erred : (P : Result Unit DepotFault → Type 0) (r : Result Unit DepotFault) → IsErr r → ((e : DepotFault) → P (Err e)) → P r
on_erred P (Ok x) failed f = absurd (false≢true failed)
on_erred P (Err e) failed f = f e

pub main_same : (c : Call) (s : Slots) → MainStays c s s
main_same BeginWork s = refl
main_same (AppendWork bytes) s = refl
main_same SyncWork s = refl
main_same DropWork s = refl
main_same InstallMain s = tt
main_same InstallJournal s = refl
main_same (WriteMain at bytes) s = tt
main_same (SetMainLen n) s = tt
main_same SyncMain s = refl
main_same DropJournal s = refl

pub journal_same : (c : Call) (s : Slots) → JournalStays c s s
journal_same BeginWork s = refl
journal_same (AppendWork bytes) s = refl
journal_same SyncWork s = refl
journal_same DropWork s = refl
journal_same InstallMain s = refl
journal_same InstallJournal s = tt
journal_same (WriteMain at bytes) s = refl
journal_same (SetMainLen n) s = refl
journal_same SyncMain s = refl
journal_same DropJournal s = tt

pub work_same : (c : Call) (s : Slots) → WorkStays c s s
work_same BeginWork s = tt
work_same (AppendWork bytes) s = tt
work_same SyncWork s = tt
work_same DropWork s = tt
work_same InstallMain s = tt
work_same InstallJournal s = tt
work_same (WriteMain at bytes) s = refl
work_same (SetMainLen n) s = refl
work_same SyncMain s = refl
work_same DropJournal s = refl

pub quiet_kept : (c : Call) (old new : Disk) → KeepsImages old new → Quiet c old new
quiet_kept BeginWork old new h = h
quiet_kept (AppendWork bytes) old new h = h
quiet_kept SyncWork old new h = h
quiet_kept DropWork old new h = h
quiet_kept InstallMain old new h = tt
quiet_kept InstallJournal old new h = tt
quiet_kept (WriteMain at bytes) old new h = tt
quiet_kept (SetMainLen n) old new h = tt
quiet_kept SyncMain old new h = tt
quiet_kept DropJournal old new h = tt

pub sure_empty : (c : Call) (d : Disk) → Only (read_as d.slots) d → Sure c d
sure_empty BeginWork d h = tt
sure_empty (AppendWork bytes) d h = tt
sure_empty SyncWork d h = tt
sure_empty DropWork d h = tt
sure_empty InstallMain d h = tt
sure_empty InstallJournal d h = tt
sure_empty (WriteMain at bytes) d h = tt
sure_empty (SetMainLen n) d h = tt
sure_empty SyncMain d h = h
sure_empty DropJournal d h = tt

-- ---- calls on `Work` alone

abbrev pub IsOnWork : Call → Type 0
IsOnWork BeginWork = Unit {0}
IsOnWork (AppendWork bytes) = Unit {0}
IsOnWork SyncWork = Unit {0}
IsOnWork DropWork = Unit {0}
IsOnWork _ = ⊥

pub work_crash : (c : Call) (s : Slots) (r : Result Unit DepotFault) (i : Image) → IsOnWork c → Crash c s r i i
work_crash BeginWork s r i h = refl
work_crash (AppendWork bytes) s r i h = refl
work_crash SyncWork s r i h = refl
work_crash DropWork s r i h = refl
work_crash InstallMain s r i h = absurd h
work_crash InstallJournal s r i h = absurd h
work_crash (WriteMain at bytes) s r i h = absurd h
work_crash (SetMainLen n) s r i h = absurd h
work_crash SyncMain s r i h = absurd h
work_crash DropJournal s r i h = absurd h

-- all but `Work` is as before
pub record WorkKept (c : Call) (old new : Slots) : Type 0 where
  pub main : new.main ≡ (effect c old).main
  pub journal : new.journal ≡ (effect c old).journal
  pub main_stays : MainStays c old new
  pub journal_stays : JournalStays c old new
  pub work_stays : WorkStays c old new

pub work_kept : (c : Call) (old : Slots) (work : Option (List ℕ)) → IsOnWork c → WorkKept c old (record { main = old.main; journal = old.journal; work = work })
work_kept BeginWork old work h = record { main = refl; journal = refl; main_stays = refl; journal_stays = refl; work_stays = tt }
work_kept (AppendWork bytes) old work h = record { main = refl; journal = refl; main_stays = refl; journal_stays = refl; work_stays = tt }
work_kept SyncWork old work h = record { main = refl; journal = refl; main_stays = refl; journal_stays = refl; work_stays = tt }
work_kept DropWork old work h = record { main = refl; journal = refl; main_stays = refl; journal_stays = refl; work_stays = tt }
work_kept InstallMain old work h = absurd h
work_kept InstallJournal old work h = absurd h
work_kept (WriteMain at bytes) old work h = absurd h
work_kept (SetMainLen n) old work h = absurd h
work_kept SyncMain old work h = absurd h
work_kept DropJournal old work h = absurd h

pub work_sure : (c : Call) (d : Disk) → IsOnWork c → Sure c d
work_sure BeginWork d h = tt
work_sure (AppendWork bytes) d h = tt
work_sure SyncWork d h = tt
work_sure DropWork d h = tt
work_sure InstallMain d h = absurd h
work_sure InstallJournal d h = absurd h
work_sure (WriteMain at bytes) d h = absurd h
work_sure (SetMainLen n) d h = absurd h
work_sure SyncMain d h = absurd h
work_sure DropJournal d h = absurd h

-- ---- the other calls

abbrev pub IsLoud : Call → Type 0
IsLoud BeginWork = ⊥
IsLoud (AppendWork bytes) = ⊥
IsLoud SyncWork = ⊥
IsLoud DropWork = ⊥
IsLoud _ = Unit {0}

pub loud_quiet : (c : Call) → IsLoud c → (old new : Disk) → Quiet c old new
loud_quiet BeginWork h old new = absurd h
loud_quiet (AppendWork bytes) h old new = absurd h
loud_quiet SyncWork h old new = absurd h
loud_quiet DropWork h old new = absurd h
loud_quiet InstallMain h old new = tt
loud_quiet InstallJournal h old new = tt
loud_quiet (WriteMain at bytes) h old new = tt
loud_quiet (SetMainLen n) h old new = tt
loud_quiet SyncMain h old new = tt
loud_quiet DropJournal h old new = tt
