-- The device calls of a plan, one after another, and the file that they make.
use Rattle.std.specs.Prelude.{ℕ, zero, suc, ◌+◌, ◌-◌, ◌*◌, ◌/◌, min, nat_lt, if◌then◌else◌, List, [], ◌∷◌, ◌++◌, length, take, drop, get_or, map}
use Rattle.std.specs.List.{flat_map}
use Rattle.part_tree.specs.declared.plan.Patch.{Patch}
use Rattle.part_tree.specs.declared.plan.Segment.{Segment}
use Rattle.part_tree.specs.declared.plan.Segment.TheVariants.{Copy, Literal, Table}
use Rattle.part_tree.specs.declared.plan.Plan.{Plan}
use Rattle.part_tree.specs.declared.plan.Plan.TheVariants.{InPlace, Rewrite}
use Rattle.me_disk.specs.Calls.{Call, piece}
use Rattle.me_disk.specs.Calls.Call.{BeginWork, AppendWork, SyncWork, InstallMain, InstallJournal, WriteMain, SetMainLen, SyncMain, DropJournal}
use Rattle.edit_journal.specs.Journal.{spelled, bytes_in_place}
use Rattle.part_tree.specs.declared.table.TableForm.{TableForm}
use Rattle.part_tree.specs.Moves.{Move}
use Rattle.part_tree.specs.Tables.{width, new_width, relocated}

-- what becomes of the bytes that were read: they stay, or they are so many rows of a table, whose places move
pub data Change : Type 0 where
  Stays : Change
  Relocates : List Move → TableForm → ℕ → Change

-- the bytes after a change
abbrev pub changed : Change → List ℕ → List ℕ
changed Stays b = b
changed (Relocates moves form rows) b = relocated moves form rows b

-- a call that changes the depot, one that reads a range of the file, or one that appends what was read last, changed: so many
-- bytes
pub data Step : Type 0 where
  Makes : Call → Step
  Reads : ℕ → ℕ → Step
  Appends : ℕ → Change → Step

-- ---- blocks

-- the most bytes that one call writes or reads
abbrev pub block : ℕ
block = 65536

-- the least number of blocks that hold so many bytes
abbrev pub blocks : ℕ → ℕ
blocks m = (m + 65535) / 65536

-- so many bytes from a place on
pub record Range : Type 0 where
  pub at : ℕ
  pub len : ℕ

-- so many pieces of this size of the range, the last one perhaps shorter
abbrev pub cut_in : ℕ → ℕ → ℕ → ℕ → List Range
cut_in size zero at len = []
cut_in size (suc k) at len = record { at = at; len = min size len } ∷ cut_in size k (at + min size len) (len - min size len)

-- the range in blocks
abbrev pub ranges : ℕ → ℕ → List Range
ranges at len = cut_in block (blocks len) at len

-- the most rows of a table that one call reads
abbrev pub page : ℕ
page = 4096

-- the least number of pages that hold so many rows
abbrev pub pages : ℕ → ℕ
pages n = (n + 4095) / 4096

-- so many rows from one on, in pages
abbrev pub page_ranges : ℕ → ℕ → List Range
page_ranges first rows = cut_in page (pages rows) first rows

-- the bytes of a range
abbrev pub part : List ℕ → Range → List ℕ
part b r = take r.len (drop r.at b)

-- ---- the parts of a list of steps

-- these bytes from a place on, at the end of `Work`
abbrev pub appends : List ℕ → ℕ → List Step
appends b from = map (λ r. Makes (AppendWork (part b r))) (ranges from (length b - from))

-- the patch, from a place in it on
abbrev pub writes : Patch → ℕ → List Step
writes p from = map (λ r. Makes (WriteMain (p.at + r.at) (part p.bytes r))) (ranges from (length p.bytes - from))

-- a range of the file, read and appended block by block
abbrev pub copies : ℕ → ℕ → List Step
copies at len = flat_map (λ r. Reads r.at r.len ∷ Appends r.len Stays ∷ []) (ranges at len)

-- the rows of a table that begins at a place of the file, from one row on, read, moved and appended page by page
abbrev pub relocates : List Move → TableForm → ℕ → ℕ → ℕ → List Step
relocates moves form from first rows =
    flat_map (λ r. Reads (from + width form * r.at) (width form * r.len) ∷ Appends (new_width form * r.len) (Relocates moves form r.len) ∷ []) (page_ranges first rows)

-- the steps of a segment
abbrev pub segment_steps : List Move → Segment → List Step
segment_steps moves (Copy s) = copies s.at s.len
segment_steps moves (Literal b) = appends b 0
segment_steps moves (Table form from rows) = relocates moves form from 0 rows

-- ---- the lists

-- the steps behind the last change of the file
abbrev pub after_writes : List Step
after_writes = Makes SyncMain ∷ Makes DropJournal ∷ []

-- the steps behind the patches: the file is cut where it becomes shorter
abbrev pub cut_steps : ℕ → ℕ → List Step
cut_steps old new = (if nat_lt new old then Makes (SetMainLen new) ∷ [] else []) ++ after_writes

-- the steps behind the making of the journal
abbrev pub install_steps : ℕ → ℕ → List Patch → List Step
install_steps old new ps = Makes SyncWork ∷ Makes InstallJournal ∷ (flat_map (λ p. writes p 0) ps ++ cut_steps old new)

-- the steps behind the making of the new file
abbrev pub end_steps : List Step
end_steps = Makes SyncWork ∷ Makes InstallMain ∷ []

-- In place: the journal is made and installed, the patches are written, what lies behind the new length is cut off, the file
-- is synced, and the journal goes. A rewrite: the segments are appended to `Work`, tables with their places moved, and
-- `Work` is synced and installed.
abbrev pub steps : Plan → List Step
steps (InPlace old new ps) = Makes BeginWork ∷ (appends (spelled old new ps) 0 ++ install_steps old new ps)
steps (Rewrite new moves segments) = Makes BeginWork ∷ (flat_map (segment_steps moves) segments ++ end_steps)

-- how many calls a plan has
unfoldable pub calls : Plan → ℕ
calls p = length (steps p)

-- how many calls it has up to the one that installs the journal or the new file, that one counted
abbrev pub install_call : Plan → ℕ
install_call (InPlace old new ps) = 3 + blocks (length (spelled old new ps))
install_call (Rewrite new moves segments) = length (steps (Rewrite new moves segments))

-- the step after the first k
abbrev pub step_at : Plan → ℕ → Step
step_at p k = get_or (steps p) k (Makes DropJournal)

-- ---- the bytes that they write

-- how many bytes a step writes
abbrev pub step_bytes : Step → ℕ
step_bytes (Makes c) = piece c
step_bytes (Reads at n) = 0
step_bytes (Appends n change) = n

-- how many bytes some steps write together
abbrev pub bytes_in : List Step → ℕ
bytes_in [] = 0
bytes_in (s ∷ ss) = step_bytes s + bytes_in ss

-- what the first k calls write
abbrev pub bytes_by : Plan → ℕ → ℕ
bytes_by p k = bytes_in (take k (steps p))

-- what all of them write: the journal and the patches, or the new file
abbrev pub bytes_written : Plan → ℕ
bytes_written (InPlace old new ps) = bytes_in_place ps
bytes_written (Rewrite new moves segments) = new
