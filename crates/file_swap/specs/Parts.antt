-- Where a rewrite stands, and the calls that it has left from there.
use Rattle.std.specs.Prelude.{◌≡◌, ℕ, ◌+◌, ◌-◌, ◌*◌, ◌<◌, min, List, [], ◌∷◌, ◌++◌, length, take, drop, get_or, ⊤}
use Rattle.std.specs.List.{flat_map}
use Rattle.part_tree.specs.declared.names.Span.{Span}
use Rattle.part_tree.specs.declared.plan.Segment.{Segment}
use Rattle.part_tree.specs.declared.plan.Segment.TheVariants.{Copy, Literal, Table}
use Rattle.part_tree.specs.declared.plan.Plan.{Plan}
use Rattle.part_tree.specs.declared.plan.Plan.TheVariants.{Rewrite}
use Rattle.std.specs.Prelude.{IsTrue}
use Rattle.me_disk.specs.Disk.{Disk, bytes_of}
use Rattle.me_disk.specs.Calls.Call.{BeginWork, AppendWork, SyncWork, InstallMain}
use Rattle.part_tree.specs.declared.table.TableForm.TheVariants.{Chunks32}
use Rattle.part_tree.specs.Plans.{AddsUp}
use Rattle.part_tree.specs.Tables.{width, new_width}
use Rattle.file_swap.specs.Steps.{Step, Change, block, page, part, appends, copies, relocates, segment_steps, end_steps}
use Rattle.file_swap.specs.Steps.Change.{Stays, Relocates}
use Rattle.file_swap.specs.Steps.Step.{Makes, Reads, Appends}
use Rattle.file_swap.specs.declared.rewrite.Stage.{Stage}
use Rattle.file_swap.specs.declared.rewrite.Stage.TheVariants.{Start, Read, Append, ReadRows, AppendRows, Put, Seal, Install, Ended}
use Rattle.file_swap.specs.declared.table_rows.TableRows.{TableRows}
use Rattle.file_swap.specs.declared.rewrite.Parts.{Parts}
use Rattle.file_swap.specs.declared.rewrite.Rewriting.{Rewriting}

-- the plan of these parts
abbrev pub plan_of : Parts → Plan
plan_of s = Rewrite s.new_len s.moves s.segments

-- the k-th segment
abbrev pub segment_at : List Segment → ℕ → Segment
segment_at ss i = get_or ss i (Literal [])

-- the range that it copies
abbrev pub span_of : Segment → Span
span_of (Copy s) = s
span_of (Literal b) = record { at = 0; len = 0 }
span_of (Table form from rows) = record { at = 0; len = 0 }

-- the bytes that it brings
abbrev pub literal_of : Segment → List ℕ
literal_of (Copy s) = []
literal_of (Literal b) = b
literal_of (Table form from rows) = []

-- the table that it moves, and one of no rows where it moves none
abbrev pub table_of : Segment → TableRows
table_of (Copy s) = record { form = Chunks32; from = 0; rows = 0 }
table_of (Literal b) = record { form = Chunks32; from = 0; rows = 0 }
table_of (Table form from rows) = record { form = form; from = from; rows = rows }

-- the range of the k-th segment
abbrev pub span_at : Parts → ℕ → Span
span_at s i = span_of (segment_at s.segments i)

-- the bytes of the k-th segment
abbrev pub literal_at : Parts → ℕ → List ℕ
literal_at s i = literal_of (segment_at s.segments i)

-- the table of the k-th segment
abbrev pub table_at : Parts → ℕ → TableRows
table_at s i = table_of (segment_at s.segments i)

-- how many rows the page has that begins with a row of the i-th segment
abbrev pub page_len : Parts → ℕ → ℕ → ℕ
page_len s i first = min page ((table_at s i).rows - first)

-- what becomes of the rows of that page
abbrev pub change_of : Parts → ℕ → ℕ → Change
change_of s i first = Relocates s.moves (table_at s i).form (page_len s i first)

-- the length of the block from a place in the i-th copy on
abbrev pub copy_len : Parts → ℕ → ℕ → ℕ
copy_len s i from = min block ((span_at s i).len - from)

-- the segments from the i-th on, and what follows them
abbrev pub segments_from : Parts → ℕ → List Step
segments_from s i = flat_map (segment_steps s.moves) (drop i s.segments) ++ end_steps

-- the i-th copy from a place in it on, and what follows it
abbrev pub copies_from : Parts → ℕ → ℕ → List Step
copies_from s i from = copies ((span_at s i).at + from) ((span_at s i).len - from) ++ segments_from s (i + 1)

-- the i-th table from a row on, and what follows it
abbrev pub rows_from : Parts → ℕ → ℕ → List Step
rows_from s i first = relocates s.moves (table_at s i).form (table_at s i).from first ((table_at s i).rows - first) ++ segments_from s (i + 1)

-- the step at this stage
abbrev pub step_of : Parts → Stage → Step
step_of s Start = Makes BeginWork
step_of s (Read i from) = Reads ((span_at s i).at + from) (copy_len s i from)
step_of s (Append i from) = Appends (copy_len s i from) Stays
step_of s (ReadRows i first) = Reads ((table_at s i).from + width (table_at s i).form * first) (width (table_at s i).form * page_len s i first)
step_of s (AppendRows i first) = Appends (new_width (table_at s i).form * page_len s i first) (change_of s i first)
step_of s (Put i from) = Makes (AppendWork (part (literal_at s i) (record { at = from; len = min block (length (literal_at s i) - from) })))
step_of s Seal = Makes SyncWork
step_of s Install = Makes InstallMain
step_of s Ended = Makes InstallMain

-- the calls that are left
abbrev pub left : Parts → Stage → List Step
left s Start = Makes BeginWork ∷ segments_from s 0
left s (Read i from) = copies_from s i from
left s (Append i from) = Appends (copy_len s i from) Stays ∷ copies_from s i (from + copy_len s i from)
left s (ReadRows i first) = rows_from s i first
left s (AppendRows i first) = step_of s (AppendRows i first) ∷ rows_from s i (first + page_len s i first)
left s (Put i from) = appends (literal_at s i) from ++ segments_from s (i + 1)
left s Seal = end_steps
left s Install = Makes InstallMain ∷ []
left s Ended = []

-- a stage at which there is something to do
abbrev pub IsStage : Parts → Stage → Type 0
IsStage s (Read i from) = (i < length s.segments) × (from < (span_at s i).len)
IsStage s (Append i from) = (i < length s.segments) × (from < (span_at s i).len)
IsStage s (ReadRows i first) = (i < length s.segments) × (first < (table_at s i).rows)
IsStage s (AppendRows i first) = (i < length s.segments) × (first < (table_at s i).rows)
IsStage s (Put i from) = (i < length s.segments) × (from < length (literal_at s i))
IsStage s _ = ⊤

-- a stage before which nothing was read that is to be appended
abbrev pub HoldsNothing : Stage → Type 0
HoldsNothing (Append i from) = ⊥
HoldsNothing (AppendRows i first) = ⊥
HoldsNothing _ = ⊤

-- what was read is appended next
abbrev pub IsNextStage : Stage → Stage → Type 0
IsNextStage (Read i from) next = next ≡ Append i from
IsNextStage (ReadRows i first) next = next ≡ AppendRows i first
IsNextStage _ next = HoldsNothing next

-- the bytes that were read and are to be appended
abbrev pub held_in : Parts → Stage → List ℕ → List ℕ
held_in s (Append i from) buffer = take (copy_len s i from) buffer
held_in s (AppendRows i first) buffer = take (width (table_at s i).form * page_len s i first) buffer
held_in s _ buffer = []

-- a read has put the bytes of the file at the front of the buffer
abbrev pub HasRead : Step → List ℕ → Disk → Type 0
HasRead (Makes c) buffer old = ⊤
HasRead (Reads at n) buffer old = IsTrue old.tells → take n buffer ≡ take n (drop at (bytes_of old.slots.main))
HasRead (Appends n change) buffer old = ⊤

-- what a rewrite holds of the file
abbrev pub held_of : Rewriting → List ℕ
held_of r = held_in r.parts r.stage r.buffer.items

-- what holds of a rewrite at each moment
pub record IsRewriting (r : Rewriting) : Type 0 where
  pub sum : AddsUp r.parts.new_len r.parts.segments
  pub stage : IsStage r.parts r.stage
  pub buffer : length r.buffer.items ≡ block
  pub moved : length r.moved.items ≡ block
