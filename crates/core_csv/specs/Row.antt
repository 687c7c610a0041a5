-- A Core table in CSV as it is written: a header and one row (this project's own; records as the crate `csv` writes them with its
-- default settings).
use Rattle.std.specs.Prelude.{ℕ, ◌<◌, List, ◌∷◌, ◌++◌, map, filter, is_some, codes}
use Rattle.std.specs.List.{AllByRecursion}
use Rattle.csv.specs.Writing.{default_writer, row_text}
use Rattle.part_tree.specs.declared.field.FieldName.{FieldName}
use Rattle.part_tree.specs.declared.fields.Entry.{Entry}
use Rattle.part_tree.specs.Fields.{names, values}
use Rattle.field_model.specs.Fields.{FieldMap}
use Rattle.escapes.specs.Escapes.{escaped}
use Rattle.core_edit.specs.Exported.{label, shown_in, table_text}

-- those of some names that a table shows
abbrev pub shown_names : FieldMap → List FieldName → List FieldName
shown_names f some = filter (λ name. is_some (table_text f name)) some

-- the cells of the header for them
abbrev pub labels : FieldMap → List FieldName → List (List ℕ)
labels f some = map label (shown_names f some)

-- the cells of the row for them, with escapes
abbrev pub texts : FieldMap → List FieldName → List (List ℕ)
texts f some = map (λ name. escaped (shown_in f name)) (shown_names f some)

-- The table of a file and its fields.
abbrev pub row : List ℕ → List Entry → List ℕ
row file fields =
    row_text default_writer (codes "FileName" ∷ labels (values fields) (names fields))
    ++ row_text default_writer (escaped file ∷ texts (values fields) (names fields))

-- each is a byte
abbrev pub AreBytes : List ℕ → Type 0
AreBytes bs = AllByRecursion (λ b. b < 256) bs
