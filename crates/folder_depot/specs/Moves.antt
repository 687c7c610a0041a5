-- What a call of a depot does to the folder that it is told by.
use Rattle.std.specs.Prelude.{◌≡◌, ◌⊎◌, ℕ, ◌≤◌, length, Option, Some, None, IsTrue, Result, Ok, OnOk}
use Rattle.me_disk.specs.declared.depot.DepotFault.{DepotFault}
use Rattle.me_disk.specs.declared.depot.Slot.{Slot}
use Rattle.me_disk.specs.declared.depot.Slot.TheVariants.{Main, Journal, Work}
use Rattle.me_disk.specs.declared.depot.WorkState.{WorkState}
use Rattle.me_disk.specs.Disk.{Image}
use Rattle.me_disk.specs.Calls.{Call, effect, Crash, MainStays, JournalStays, WorkStays, Sure}
use Rattle.me_disk.specs.Calls.Call.{DropWork, InstallMain, InstallJournal}
use Rattle.me_disk.specs.Steps.{Quiet}
use Rattle.me_folder.specs.Tree.{Tree, slots_in, CutLeaves, CutLeft}
use Rattle.me_folder.specs.Told.{disk_of, is_safe, is_settled, trusts, file_at}

-- so it is where the folder tells what it holds, and one that tells nothing goes on telling nothing
abbrev pub On : (Tree → Tree → Type 0) → Option Tree → Option Tree → Type 0
On R None new = new ≡ None
On R (Some old) new = (t : Tree) × (new ≡ Some t) × R old t

-- the moments go on, and a power cut at one since an earlier moment might have left what it might have left before, or P
pub record GoesOn (P : Image → Type 0) (old new : Tree) : Type 0 where
  pub clock : length old.past ≤ length new.past
  pub since : (t : ℕ) (i : Image) → t ≤ length old.past → CutLeft new.names new.past t i → CutLeft old.names old.past t i ⊎ P i
  pub stay : (t : ℕ) (i : Image) → t ≤ length old.past → CutLeft old.names old.past t i → CutLeft new.names new.past t i

-- an image from before, after the call as it is done
abbrev pub Reached : Call → Tree → Image → Type 0
Reached c old i = (j : Image) × CutLeaves old.names j × Crash c (slots_in old.names) (Ok tt) j i

-- the call as the depot's model has it
pub record Moves (c : Call) (r : Result Unit DepotFault) (old new : Tree) : Type 0 where
  pub main : OnOk r ((slots_in new.names).main ≡ (effect c (slots_in old.names)).main)
  pub journal : OnOk r ((slots_in new.names).journal ≡ (effect c (slots_in old.names)).journal)
  pub work : OnOk r ((slots_in new.names).work ≡ (effect c (slots_in old.names)).work)
  pub main_stays : MainStays c (slots_in old.names) (slots_in new.names)
  pub journal_stays : JournalStays c (slots_in old.names) (slots_in new.names)
  pub work_stays : WorkStays c (slots_in old.names) (slots_in new.names)
  pub images : (i : Image) → CutLeaves new.names i → (j : Image) × CutLeaves old.names j × Crash c (slots_in old.names) r j i
  pub goes : GoesOn (Reached c old) old new
  pub quiet : (f f' w w' : ℕ) (s s' : WorkState) → Quiet c (disk_of (Some old) f w s) (disk_of (Some new) f' w' s')
  pub sure : (f w : ℕ) (s : WorkState) → OnOk r (Sure c (disk_of (Some new) f w s))

-- where it is told
abbrev pub Makes : Call → Option Tree → Option Tree → Result Unit DepotFault → Type 0
Makes c old new r = On (Moves c r) old new

-- `Work` is another, and no name that a power cut leaves something of
pub record MovesWork (old new : Tree) : Type 0 where
  pub main : new.names.main ≡ old.names.main
  pub journal : new.names.journal ≡ old.names.journal
  pub goes : GoesOn (λ i. ⊥) old new

-- a read gives the same, and a power cut leaves no more
pub record Shrinks (old new : Tree) : Type 0 where
  pub slots : slots_in new.names ≡ slots_in old.names
  pub fewer : (i : Image) → CutLeaves new.names i → CutLeaves old.names i
  pub goes : GoesOn (λ i. ⊥) old new

-- what is known of the names but `Work` is known still
pub record SameOthers (old new : Option Tree) : Type 0 where
  pub settled : is_settled new ≡ is_settled old
  pub trusted : trusts new ≡ trusts old

-- a power cut leaves what a read gives, and no sync failed
pub record IsCalm (tree : Option Tree) : Type 0 where
  pub settled : IsTrue (is_settled tree)
  pub main : IsTrue (is_safe (file_at Main tree))
  pub trusted : IsTrue (trusts tree)

-- the call that gives `Work` this name
abbrev pub install_call : Slot → Call
install_call Main = InstallMain
install_call Journal = InstallJournal
install_call Work = DropWork
