-- A Core table in XML as it is written: one block (this project's own).
use Rattle.std.specs.Prelude.{ℕ, ◌<◌, List, [], ◌∷◌, ◌++◌, filter, is_some, codes}
use Rattle.std.specs.List.{AllByRecursion}
use Rattle.part_tree.specs.declared.field.FieldName.{FieldName}
use Rattle.part_tree.specs.declared.fields.Entry.{Entry}
use Rattle.part_tree.specs.Fields.{names, values}
use Rattle.field_model.specs.Fields.{FieldMap}
use Rattle.core_edit.specs.Exported.{label, shown_in, table_text}
use Rattle.core_xml.specs.Lines.{block_end, declaration, table_begin, table_end}
use Rattle.core_xml.specs.Markup.{written}

-- the line of a file's name
abbrev pub file_line : List ℕ → List ℕ
file_line file = codes "<File name=\"" ++ written file ++ codes "\">\n"

-- the line of a field's name and text
abbrev pub field_line : List ℕ → List ℕ → List ℕ
field_line name text = codes "<Field name=\"" ++ written name ++ codes "\">" ++ written text ++ codes "</Field>\n"

-- the lines of some names, one after the other
abbrev pub lines_of_names : FieldMap → List FieldName → List ℕ
lines_of_names f [] = []
lines_of_names f (name ∷ some) = field_line (label name) (shown_in f name) ++ lines_of_names f some

-- the lines of those of some names that a table shows
abbrev pub lines : FieldMap → List FieldName → List ℕ
lines f some = lines_of_names f (filter (λ name. is_some (table_text f name)) some)

-- The table of a file and its fields.
abbrev pub block : List ℕ → List Entry → List ℕ
block file fields =
    declaration ++ table_begin ++ file_line file ++ lines (values fields) (names fields) ++ block_end ++ table_end

-- each is a byte
abbrev pub AreBytes : List ℕ → Type 0
AreBytes bs = AllByRecursion (λ b. b < 256) bs
