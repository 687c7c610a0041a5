-- A table of names and their texts.
use Rattle.std.specs.Prelude.{List, ℕ, [], ◌∷◌, Option, Some, None, if◌then◌else◌}
use Rattle.std.specs.Str.{bytes_eq}
use Rattle.part_tree.specs.declared.field.FieldName.{FieldName}
use Rattle.core_edit.specs.declared.name.NameRow.{NameRow}

-- the name of the first row that has a text
abbrev pub found_name : List ℕ → List NameRow → Option FieldName
found_name text [] = None
found_name text (row ∷ rows) = if bytes_eq row.text.now text then Some row.name else found_name text rows
