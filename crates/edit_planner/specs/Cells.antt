-- The cells of a form as a planner holds them: by their places, and by what an edit reads of them (this project's own).
use Rattle.std.specs.Prelude.{◌≡◌, ◌≤◌, ℕ, ◌+◌, ◌^◌, ◌<◌, List, [], ◌∷◌, length, map, Bool, false, if◌then◌else◌, Option, Some, None}
use Rattle.std.specs.List.{AllByRecursion}
use Rattle.part_tree.specs.Letters.{four}
use Rattle.part_tree.specs.declared.field.FieldName.{FieldName}
use Rattle.part_tree.specs.declared.field.FieldName.TheVariants as name
use Rattle.part_tree.specs.declared.field.Value.{Value}
use Rattle.part_tree.specs.Names.{bext_row}
use Rattle.field_model.specs.Body.{FillsRange}
use Rattle.container_model.specs.Chunk.{Chunk, spell, spell_all}
use Rattle.container_model.specs.Units.{Cell, kept, gap, edited, was, lacks_pad}
use Rattle.carrier_model.specs.Info.{list_run}
use Rattle.info_list.specs.Info.{item_of}
use Rattle.info_list.specs.declared.InfoList.{InfoList}
use Rattle.bext_fields.specs.declared.change.RawChange.{RawChange}
use Rattle.wave_model.specs.Fields.{is_bext, is_info, is_whole}
use Rattle.wave_model.specs.Edited.{parts_of}
use Rattle.wave_file.specs.Map.{role_of, at_front}
use Rattle.unit_plan.specs.Shapes.{parts_in}
use Rattle.edit_planner.specs.declared.cells.CellAt.{CellAt}
use Rattle.edit_planner.specs.declared.cells.Content.{Content}
use Rattle.edit_planner.specs.declared.cells.Content.TheVariants.{Kept, Body, Listed, Gap, Edited}

-- ---- what a planner holds of a cell

-- the list of items that a chunk is
abbrev pub list_in : Chunk → InfoList
list_in c = record { items = map item_of (list_run c).chunks; rest = (list_run c).left }

-- a chunk of a WAVE or RF64 file that is kept: a list by its items, `bext` by its body, and any other by its identifier
-- and what it is to an edit
abbrev pub content_of : ℕ → Chunk → Content
content_of at c =
    if is_info c then Listed (list_in c)
    else (if is_bext c then Body c.body
    else Kept (four c.id) (at_front at (role_of c)))

-- how many parts a chunk counts for: a list and its items, and any other one alone
abbrev pub part_count : Chunk → ℕ
part_count c = length (parts_of c)

-- these chunks are to stand there, with the parts that they count for
abbrev pub edited_as : List Chunk → Content
edited_as now = Edited (spell_all now) (parts_in part_count now)

-- a cell at a place of the file, where a chunk that is kept is held so
abbrev pub told_by : (ℕ → Chunk → Content) → ℕ → Cell → CellAt
told_by held at (kept c) = record { at = at; next = at + length (spell c); lacks_pad = lacks_pad c; content = held at c }
told_by held at (gap c) = record { at = at; next = at + length (spell c); lacks_pad = lacks_pad c; content = Gap }
told_by held at (edited old now) =
    record { at = at; next = at + length (spell_all old); lacks_pad = false; content = edited_as now }

-- cells that follow each other from a place on
abbrev pub told_row_by : (ℕ → Chunk → Content) → ℕ → List Cell → List CellAt
told_row_by held at [] = []
told_row_by held at (x ∷ xs) = told_by held at x ∷ told_row_by held (at + length (spell_all (was x))) xs

-- the same in a WAVE or RF64 file
abbrev pub told : ℕ → Cell → CellAt
told at x = told_by content_of at x

abbrev pub told_row : ℕ → List Cell → List CellAt
told_row at xs = told_row_by content_of at xs

-- ---- cells where something is edited

-- what stands there now meets no such test
abbrev pub Unmet : (Chunk → Bool) → List Cell → Type 0
Unmet p [] = Unit {0}
Unmet p (kept c ∷ xs) = Unmet p xs
Unmet p (gap c ∷ xs) = Unmet p xs
Unmet p (edited old now ∷ xs) = AllByRecursion (λ c. p c ≡ false) now × Unmet p xs

-- no field that is a whole chunk
abbrev pub NoWholes : List Cell → Type 0
NoWholes xs = (w : List ℕ) → Unmet (is_whole w) xs

-- nothing is edited
abbrev pub Unedited : List Cell → Type 0
Unedited [] = Unit {0}
Unedited (kept c ∷ xs) = Unedited xs
Unedited (gap c ∷ xs) = Unedited xs
Unedited (edited old now ∷ xs) = ⊥

-- ---- what is asked of changes

-- What a field can have: of `bext` bytes that fill its range, and of a coding history at most 1 MiB; of a whole chunk
-- at most 16 MiB.
abbrev pub IsFine : FieldName → Option Value → Type 0
IsFine (name.Bext field) None = ⊥
IsFine (name.Bext field) (Some v) =
    (v.lang ≡ 0) × FillsRange field v.raw × (bext_row field ≡ 14 → length v.raw ≤ 2 ^ 20)
IsFine (name.Info id) None = Unit {0}
IsFine (name.Info id) (Some v) = v.lang ≡ 0
IsFine (name.Whole id) None = Unit {0}
IsFine (name.Whole id) (Some v) = (v.lang ≡ 0) × (length v.raw ≤ 2 ^ 24)
IsFine _ value = ⊥

-- the same of each change
abbrev pub AreFine : List RawChange → Type 0
AreFine changes = AllByRecursion (λ c. IsFine c.name c.value) changes

-- ---- what is asked of cells

-- A body of `bext` has at least 602 bytes and at most 16 MiB; items of a list have identifiers of four bytes, and what
-- is behind them is shorter than a header.
abbrev pub IsReadable : Content → Type 0
IsReadable (Body body) = (602 ≤ length body) × (length body ≤ 2 ^ 24)
IsReadable (Listed list) = AllByRecursion (λ i. length i.id.0 ≡ 4) list.items × (length list.rest < 8)
IsReadable (Kept id role) = Unit {0}
IsReadable Gap = Unit {0}
IsReadable (Edited now parts) = Unit {0}

-- the same of each cell
abbrev pub AreReadable : List CellAt → Type 0
AreReadable xs = AllByRecursion (λ x. IsReadable x.content) xs

-- ---- whatever the file

-- the cells follow each other from a place up to an end
abbrev pub Follow : ℕ → List CellAt → ℕ → Type 0
Follow at [] end = at ≡ end
Follow at (x ∷ xs) end = (x.at ≡ at) × (x.at ≤ x.next) × (x.next ≤ end) × Follow x.next xs end
