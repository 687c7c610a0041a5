-- What a plan makes of a file, which plans can be run, and which are plans for a file (this project's own).
use Rattle.std.specs.Prelude.{◌≡◌, ℕ, ◌+◌, ◌*◌, ◌≤◌, ◌<◌, ◌^◌, List, [], ◌∷◌, length, take, drop, ⊤}
use Rattle.std.specs.List.{flat_map}
use Rattle.part_tree.specs.declared.plan.Segment.{Segment}
use Rattle.part_tree.specs.declared.plan.Segment.TheVariants.{Copy, Literal, Table}
use Rattle.part_tree.specs.declared.plan.Plan.{Plan}
use Rattle.part_tree.specs.declared.plan.Plan.TheVariants.{InPlace, Rewrite}
use Rattle.part_tree.specs.Moves.{Move}
use Rattle.part_tree.specs.Patches.{FewRules, laid}
use Rattle.part_tree.specs.Tables.{width, new_width, relocated, RowsNamed, HasBase}

-- how many bytes a segment makes
abbrev pub segment_len : Segment → ℕ
segment_len (Copy s) = s.len
segment_len (Literal b) = length b
segment_len (Table form from rows) = new_width form * rows

-- how many bytes some segments make together
abbrev pub total_len : List Segment → ℕ
total_len [] = 0
total_len (s ∷ ss) = segment_len s + total_len ss

-- a table has a base below 2^63, if it has one
abbrev pub IsBased : Segment → Type 0
IsBased (Copy s) = ⊤
IsBased (Literal b) = ⊤
IsBased (Table form from rows) = HasBase form

-- the same of each segment
abbrev pub AllBased : List Segment → Type 0
AllBased [] = ⊤
AllBased (s ∷ ss) = IsBased s × AllBased ss

-- it moves no table
abbrev pub IsPlain : Segment → Type 0
IsPlain (Copy s) = ⊤
IsPlain (Literal b) = ⊤
IsPlain (Table form from rows) = ⊥

-- the same of each segment
abbrev pub AllPlain : List Segment → Type 0
AllPlain [] = ⊤
AllPlain (s ∷ ss) = IsPlain s × AllPlain ss

-- its segments have together the new length
pub record AddsUp (new : ℕ) (segments : List Segment) : Type 0 where
  pub total : total_len segments ≡ new
  pub fits : new < 2 ^ 63
  pub based : AllBased segments

-- What a plan must meet, whatever the file is: its patches keep the rules of a journal, or its segments add up.
abbrev pub CanRun : Plan → Type 0
CanRun (InPlace old new ps) = FewRules old new ps
CanRun (Rewrite new moves segments) = AddsUp new segments

-- a copy is a range of the file, and so are the rows of a table
abbrev pub Inside : List ℕ → Segment → Type 0
Inside o (Copy s) = s.at + s.len ≤ length o
Inside o (Literal b) = ⊤
Inside o (Table form from rows) = from + width form * rows ≤ length o

-- the same of each segment
abbrev pub AllInside : List ℕ → List Segment → Type 0
AllInside o [] = ⊤
AllInside o (s ∷ ss) = Inside o s × AllInside o ss

-- all new places in a table can be named
abbrev pub Named : List Move → List ℕ → Segment → Type 0
Named moves o (Copy s) = ⊤
Named moves o (Literal b) = ⊤
Named moves o (Table form from rows) = RowsNamed moves form rows (drop from o)

-- the same of each segment
abbrev pub AllNamed : List Move → List ℕ → List Segment → Type 0
AllNamed moves o [] = ⊤
AllNamed moves o (s ∷ ss) = Named moves o s × AllNamed moves o ss

-- What it must meet of the file: its old length is that of the file; or its copies and tables lie inside the file, and all new
-- places in its tables can be named.
abbrev pub IsFor : Plan → List ℕ → Type 0
IsFor (InPlace old new ps) o = old ≡ length o
IsFor (Rewrite new moves segments) o = AllInside o segments × (length o < 2 ^ 63) × AllNamed moves o segments

-- The plan is one for this file.
pub record Belongs (p : Plan) (o : List ℕ) : Type 0 where
  pub can : CanRun p
  pub file : IsFor p o

-- ---- the new file

-- what a segment makes of a file
abbrev pub segment_bytes : List Move → List ℕ → Segment → List ℕ
segment_bytes moves o (Copy s) = take s.len (drop s.at o)
segment_bytes moves o (Literal b) = b
segment_bytes moves o (Table form from rows) = relocated moves form rows (drop from o)

-- what the plan makes of a file
abbrev pub applied : Plan → List ℕ → List ℕ
applied (InPlace old new ps) o = laid new ps o
applied (Rewrite new moves segments) o = flat_map (segment_bytes moves o) segments
