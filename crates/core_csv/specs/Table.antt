-- A Core table in CSV: the edit that it gives a file, or why it is refused (this project's own; records as the crate `csv` reads
-- them with its default settings).
use Rattle.std.specs.Prelude.{ℕ, suc, ◌+◌, List, [], ◌∷◌, ◌++◌, length, get_or, drop, Bool, false, not, ◌==◌, nat_lt, if◌then◌else◌, Option, Some, None, is_none, Result, Ok, Err, codes}
use Rattle.std.specs.List.{list_all}
use Rattle.std.specs.Str.{bytes_eq, is_utf8}
use Rattle.csv.specs.Reading.{default_config, records, strip_bom}
use Rattle.part_tree.specs.declared.field.Change.{Change}
use Rattle.part_tree.specs.declared.field.Change.TheVariants.{Set, Remove}
use Rattle.part_tree.specs.declared.field.EditItem.{EditItem}
use Rattle.part_tree.specs.declared.field.FieldName.{FieldName}
use Rattle.field_model.specs.Texts.{field_name}
use Rattle.escapes.specs.Escapes.{unescaped}
use Rattle.core_table.specs.Answers.{unless, and_then, map_ok}
use Rattle.core_table.specs.Sets.{has}
use Rattle.core_table.specs.declared.fault.TheConstants.{MOST_BYTES}
use Rattle.core_table.specs.declared.fault.TableFault.{TableFault}
use Rattle.core_table.specs.declared.fault.TableFault.TheVariants.{Long, NoHeader, UnknownColumn, TwiceColumn, RowLength, NotUtf8, BadEscape, NoRow, TwoRows}
use Rattle.core_csv.specs.declared.found.Found.{Found}

-- ---- the header

-- The fault of column n, behind columns of these names: no field has its name, or an earlier column has it. No two texts name one
-- field.
abbrev pub column_fault : ℕ → List (List ℕ) → List ℕ → Option TableFault
column_fault n earlier name =
    if is_none (field_name name) then Some (UnknownColumn n) else (if has earlier name then Some (TwiceColumn n) else None)

-- a fault, or the one behind it where there is none
abbrev pub or_later : Option TableFault → Option TableFault → Option TableFault
or_later (Some fault) later = Some fault
or_later None later = later

-- the first fault of the columns from n on, behind those of these names
abbrev pub header_fault : ℕ → List (List ℕ) → List (List ℕ) → Option TableFault
header_fault n earlier [] = None
header_fault n earlier (name ∷ names) = or_later (column_fault n earlier name) (header_fault (suc n) (earlier ++ name ∷ []) names)

-- ---- a row

-- a cell that removes its field
abbrev pub is_removal : List ℕ → Bool
is_removal cell = bytes_eq cell (codes "\\d")

-- the change that sets a text, where no backslash begins a wrong escape
abbrev pub set_to : ℕ → ℕ → Option (List ℕ) → Result (Option Change) TableFault
set_to n c None = Err (BadEscape n c)
set_to n c (Some text) = Ok (Some (Set text))

-- the change that the cell of row n and column c spells: none where it is empty, `\d` removes, another sets its unescaped bytes
abbrev pub cell_change : ℕ → ℕ → List ℕ → Result (Option Change) TableFault
cell_change n c cell = if length cell == 0 then Ok None else (if is_removal cell then Ok (Some Remove) else set_to n c (unescaped cell))

-- the item of a field and a change, if both are there
abbrev pub item : Option FieldName → Option Change → List EditItem
item (Some name) (Some change) = record { name = name; change = change } ∷ []
item _ _ = []

-- the items of the cells of row n from column c on, under these names; the first cell with a bad escape is a fault
abbrev pub row_items : ℕ → ℕ → List (List ℕ) → List (List ℕ) → Result (List EditItem) TableFault
row_items n c (name ∷ names) (cell ∷ cells) =
    and_then (cell_change n c cell) (λ change. map_ok (λ items. item (field_name name) change ++ items) (row_items n (suc c) names cells))
row_items n c names cells = Ok []

-- the fault of row n by itself: another number of cells than the header has, a cell that isn't UTF-8, a bad escape in the file's name
abbrev pub row_fault : ℕ → ℕ → List (List ℕ) → Option TableFault
row_fault width n row =
    if not (length row == width) then Some (RowLength n)
    else (if not (list_all is_utf8 row) then Some (NotUtf8 n) else (if is_none (unescaped (get_or row 0 [])) then Some (BadEscape n 1) else None))

-- whether a name is this file's
abbrev pub is_name : List ℕ → Option (List ℕ) → Bool
is_name file None = false
is_name file (Some name) = bytes_eq name file

-- whether a row is the file's
abbrev pub is_row_of : List ℕ → List (List ℕ) → Bool
is_row_of file row = is_name file (unescaped (get_or row 0 []))

-- row n of the file, where an earlier one may have been the file's too
abbrev pub take_row : List (List ℕ) → ℕ → List (List ℕ) → Option Found → Result (Option Found) TableFault
take_row names n row None = map_ok (λ items. Some (record { row = n; edit = items })) (row_items n 2 names (drop 1 row))
take_row names n row (Some first) = Err (TwoRows first.row n)

-- the file's row so far, after row n
abbrev pub after_row : List ℕ → List (List ℕ) → ℕ → Option Found → List (List ℕ) → Result (Option Found) TableFault
after_row file names n found row =
    unless (row_fault (length names + 1) n row) (if is_row_of file row then take_row names n row found else Ok found)

-- ---- the table

-- the edit of the file's row
abbrev pub edit_of : Option Found → Result (List EditItem) TableFault
edit_of None = Err NoRow
edit_of (Some found) = Ok found.edit

-- the rows from n on, in order
abbrev pub read_rows : List ℕ → List (List ℕ) → ℕ → Option Found → List (List (List ℕ)) → Result (List EditItem) TableFault
read_rows file names n found [] = edit_of found
read_rows file names n found (row ∷ rows) = and_then (after_row file names n found row) (λ next. read_rows file names (suc n) next rows)

-- whether the first cell of a header is `FileName`
abbrev pub is_header : List (List ℕ) → Bool
is_header header = bytes_eq (get_or header 0 []) (codes "FileName")

-- the records of a table: a header and rows
abbrev pub read : List ℕ → List (List (List ℕ)) → Result (List EditItem) TableFault
read file [] = Err NoHeader
read file (header ∷ rows) =
    if is_header header then unless (header_fault 2 [] (drop 1 header)) (read_rows file (drop 1 header) 1 None rows) else Err NoHeader

-- The edit that a table gives a file, or the first fault in reading order.
abbrev pub table : List ℕ → List ℕ → Result (List EditItem) TableFault
table bytes file = if nat_lt MOST_BYTES (length bytes) then Err Long else read file (records default_config (strip_bom bytes))
