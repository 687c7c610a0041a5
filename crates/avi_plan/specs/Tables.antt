-- The tables of an AVI file by place, and what becomes of each (AVI RIFF File Reference; OpenDML 1.02; that numbers move with the
-- essence is this project's own).
use Rattle.std.specs.Prelude.{◌≡◌, ℕ, ◌+◌, List, [], ◌∷◌, length, map, nat_le, Bool, true, false, Option, Some, None, if◌then◌else◌}
use Rattle.part_tree.specs.Moves.{Move}
use Rattle.part_tree.specs.declared.table.Base.TheVariants.{FileStart}
use Rattle.part_tree.specs.declared.table.IndexHead.{IndexHead}
use Rattle.part_tree.specs.declared.table.TableForm.TheVariants as form
use Rattle.container_model.specs.Tables.{Table}
use Rattle.container_model.specs.Written.{slice}
use Rattle.relocator.specs.Bases.{moved_base}
use Rattle.avi_index.specs.Checks.{told_base}
use Rattle.avi_index.specs.Rows.{Base, from_movi, from_start, count16}
use Rattle.opendml_index.specs.Index.{entries, first_counted, is_super, used}
use Rattle.opendml_index.specs.Kinds.{SoundIndex, is_index_kind}
use Rattle.avi_model.specs.Avi.{avi_of, first_movi}
use Rattle.avi_model.specs.Index.{base, indexes, olds, table_span}
use Rattle.avi_model.specs.Support.{by_place}
use Rattle.avi_plan.specs.Heads.{head_in}
use Rattle.avi_plan.specs.declared.table.Change.{Change}
use Rattle.avi_plan.specs.declared.table.Change.TheVariants as change
use Rattle.avi_plan.specs.declared.table.TableAt.{TableAt}
use Rattle.avi_plan.specs.declared.table.TableKind.{TableKind}
use Rattle.avi_plan.specs.declared.table.TableKind.TheVariants as kind

-- ---- the tables by place

-- idx1, or an index chunk
pub data Tabled : Type 0 where
  old : Table → Tabled
  index : Table → Tabled

abbrev pub table_of : Tabled → Table
table_of (old t) = t
table_of (index t) = t

-- a table put among others, before the first one that begins at or behind its end
abbrev pub put_tabled : Tabled → List Tabled → List Tabled
put_tabled t [] = t ∷ []
put_tabled t (u ∷ us) = if nat_le ((table_of t).at + length (table_of t).body) (table_of u).at then t ∷ (u ∷ us) else u ∷ put_tabled t us

abbrev pub put_tableds : List Tabled → List Tabled → List Tabled
put_tableds [] us = us
put_tableds (t ∷ ts) us = put_tabled t (put_tableds ts us)

-- the tables of a file
abbrev pub tables_in : List ℕ → List Tabled
tables_in b = put_tableds (map old (olds b)) (map index (by_place (indexes b)))

-- ---- what a planner is told

abbrev pub kind_by : Bool → TableKind
kind_by true = kind.Super
kind_by false = kind.Standard

-- of a table, where the first movi stands at a place, and idx1 has a base
abbrev pub table_at : ℕ → Base → Tabled → TableAt
table_at movi base (old t) = record { body = table_span t; kind = kind.Old (told_base movi base) }
table_at movi base (index t) = record { body = table_span t; kind = kind_by (is_super t.body) }

-- of all tables
abbrev pub AreTables : List ℕ → List TableAt → Type 0
AreTables b ts = ts ≡ map (table_at (first_movi (avi_of b)).at (base b)) (tables_in b)

-- a table stands in a file
abbrev pub StandsAt : List ℕ → Table → Type 0
StandsAt b t = slice b t.at (length t.body) ≡ t.body

-- and an index chunk is whole
abbrev pub IsTabled : List ℕ → Tabled → Type 0
IsTabled b (old t) = StandsAt b t
IsTabled b (index t) = StandsAt b t × SoundIndex is_index_kind t.body

-- ---- what becomes of a table

-- the rows of idx1, where they count from the start of the file
abbrev pub old_changes : Base → Table → List Change
old_changes from_movi t = []
old_changes from_start t = change.Rows (form.Idx1 FileStart) t.at (count16 t.body) ∷ []

-- the rows of a super index
abbrev pub super_changes : Table → List Change
super_changes t = change.Rows form.Super (t.at + 24) (used t.body) ∷ []

-- the base of a standard index, and its rows, where an entry is counted; the body begins at a place
abbrev pub standard_changes : List Move → IndexHead → ℕ → Option ℕ → List Change
standard_changes ms h at None = []
standard_changes ms h at (Some x) =
    let base = moved_base ms h.base (Some (h.base + x)) in
    change.Base (at + 12) base ∷ (change.Rows (form.Standard h base) (at + 24) h.used ∷ [])

abbrev pub index_changes : List Move → Table → Bool → List Change
index_changes ms t true = super_changes t
index_changes ms t false = standard_changes ms (head_in t.body) t.at (first_counted (entries t.body))

abbrev pub changes_of : List Move → Base → Tabled → List Change
changes_of ms base (old t) = old_changes base t
changes_of ms base (index t) = index_changes ms t (is_super t.body)
