-- The texts of fields that a table shows (this project's own).
use Rattle.std.specs.Prelude.{ℕ, List, [], Option, Some, None, is_some, filter, if◌then◌else◌}
use Rattle.part_tree.specs.declared.field.BextField.TheVariants.{Version}
use Rattle.part_tree.specs.declared.field.FieldName.{FieldName}
use Rattle.part_tree.specs.declared.field.FieldName.TheVariants.{Bext}
use Rattle.part_tree.specs.declared.fields.Entry.{Entry}
use Rattle.part_tree.specs.Fields.{names, values}
use Rattle.part_tree.specs.Names.{same_name}
use Rattle.field_model.specs.Fields.{FieldMap}
use Rattle.field_model.specs.Shown.{unless_empty}
use Rattle.field_model.specs.Texts.{name_text}
use Rattle.field_model.specs.Update.{only_shown}

-- a text, unless there is none or it is empty
abbrev pub some_bytes : Option (List ℕ) → Option (List ℕ)
some_bytes None = None
some_bytes (Some text) = unless_empty text

-- What a table shows of a name: the text of its only value, unless it is empty. Of the version it shows nothing, since no edit sets it.
abbrev pub table_text : FieldMap → FieldName → Option (List ℕ)
table_text f name = if same_name name (Bext Version) then None else some_bytes (only_shown f name (f name))

-- the names of which a table shows a text, in field order
abbrev pub exported : List Entry → List FieldName
exported es = filter (λ name. is_some (table_text (values es) name)) (names es)

-- a text, no bytes where there is none
abbrev pub or_nothing : Option (List ℕ) → List ℕ
or_nothing None = []
or_nothing (Some text) = text

-- what stands for a name in a table
abbrev pub label : FieldName → List ℕ
label name = or_nothing (name_text name)

-- what stands for its text, before any escape
abbrev pub shown_in : FieldMap → FieldName → List ℕ
shown_in f name = or_nothing (table_text f name)
