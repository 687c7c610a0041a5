-- What a depot over a folder holds, and what a power cut may leave of it.
use Rattle.std.specs.Prelude.{ℕ, Bool, true, false, not, ◌&&◌, is_some, List, [], ◌∷◌, length, Option, Some, None}
use Rattle.me_disk.specs.declared.depot.Slot.{Slot}
use Rattle.me_disk.specs.declared.depot.Slot.TheVariants.{Main, Journal}
use Rattle.me_disk.specs.declared.depot.WorkState.{WorkState}
use Rattle.me_disk.specs.Disk.{Slots, Image, Disk}
use Rattle.me_folder.specs.Files.{File, Change}
use Rattle.me_folder.specs.Tree.{Names, Tree, name_of, slots_in, CutLeaves, CutLeft}

-- what the three names stand for, none where it tells nothing
abbrev pub slots_of : Option Tree → Slots
slots_of None = record { main = None; journal = None; work = None }
slots_of (Some t) = slots_in t.names

-- how many moments have passed
abbrev pub moments : Option Tree → ℕ
moments None = 0
moments (Some t) = length t.past

-- a power cut now may leave this image
abbrev pub LeavesNow : Option Tree → Image → Type 0
LeavesNow None i = ⊥
LeavesNow (Some t) i = CutLeaves t.names i

-- one at some moment since this might have left it
abbrev pub LeftSince : Option Tree → ℕ → Image → Type 0
LeftSince None t i = ⊥
LeftSince (Some tree) t i = CutLeft tree.names tree.past t i

-- the depot, by what the folder tells and what the depot counts
abbrev pub disk_of : Option Tree → ℕ → ℕ → WorkState → Disk
disk_of tree faults written state = record {
  faults = faults;
  written = written;
  clock = moments tree;
  work_state = state;
  tells = is_some tree;
  slots = slots_of tree;
  images = LeavesNow tree;
  since = LeftSince tree;
}

-- ---- what is safe

abbrev pub is_none_of : {T : Type 0} → List T → Bool
is_none_of [] = true
is_none_of (x ∷ xs) = false

-- no sync of the file failed
abbrev pub is_trusted : Option File → Bool
is_trusted None = true
is_trusted (Some f) = not f.doubted

-- a power cut leaves of the file what it holds, and no sync of it failed
abbrev pub is_safe : Option File → Bool
is_safe None = true
is_safe (Some f) = is_none_of f.changes && not f.doubted

-- the file under a name, None where there is none or nothing is told
abbrev pub file_at : Slot → Option Tree → Option File
file_at name None = None
file_at name (Some t) = (name_of name t.names).now

-- no sync of `Main` or of the journal failed
abbrev pub trusts : Option Tree → Bool
trusts tree = is_trusted (file_at Main tree) && is_trusted (file_at Journal tree)

abbrev pub are_settled : Names → Bool
are_settled s = is_none_of s.main.older && (is_none_of s.journal.older && is_safe s.journal.now)

-- a power cut leaves under `Main` what is left of its file, and the journal as it is
abbrev pub is_settled : Option Tree → Bool
is_settled None = true
is_settled (Some t) = are_settled t.names
