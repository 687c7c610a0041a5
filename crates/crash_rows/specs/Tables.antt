-- A worked rewrite with tables.
use Rattle.std.specs.Prelude.{List, [], ◌∷◌}
use Rattle.part_tree.specs.declared.plan.Plan.{Plan}
use Rattle.part_tree.specs.declared.plan.Plan.TheVariants.{Rewrite}
use Rattle.part_tree.specs.declared.plan.Segment.{Segment}
use Rattle.part_tree.specs.declared.plan.Segment.TheVariants.{Copy, Literal, Table}
use Rattle.part_tree.specs.declared.table.Base.TheVariants.{FileStart}
use Rattle.part_tree.specs.declared.table.TableForm.TheVariants.{Idx1, Standard, Chunks32}
use Rattle.part_tree.specs.Moves.{Move}
use Rattle.crash_rows.specs.declared.tables.TheConstants.{HEAD, MORE}

-- the last 40 bytes of the file go 8 bytes further
unfoldable pub gone : List Move
gone = (record { at = 16476; len = 40 }, 16484) ∷ []

-- eight bytes are put before the tables
unfoldable pub parts : List Segment
parts =
    Copy (record { at = 0; len = 16 }) ∷ Literal MORE ∷ Table (Idx1 FileStart) 16 3 ∷ Table (Standard HEAD 16000) 64 2 ∷ Table Chunks32 88 4097
    ∷ Copy (record { at = 16476; len = 40 }) ∷ []

-- the rewrite
unfoldable pub tables : Plan
tables = Rewrite 16524 gone parts
