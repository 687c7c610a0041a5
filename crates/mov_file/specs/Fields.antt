-- How the fields of a movie grow while its atoms are read.
use Rattle.std.specs.Prelude.{◌≡◌, ℕ, List, [], ◌∷◌, ◌++◌, map, Bool, true, false, ◌&&◌, not, if◌then◌else◌}
use Rattle.part_tree.specs.Fields.{values}
use Rattle.part_tree.specs.Keys.{is_key_name}
use Rattle.part_tree.specs.Names.{same_name}
use Rattle.part_tree.specs.declared.field.FieldName.{FieldName}
use Rattle.part_tree.specs.declared.field.FieldName.TheVariants.{User, Key}
use Rattle.part_tree.specs.declared.field.Value.{Value}
use Rattle.part_tree.specs.declared.fields.Entry.{Entry}
use Rattle.field_model.specs.Fields.{FieldMap, plain}
use Rattle.field_model.specs.Lawful.{IsLawful}
use Rattle.container_model.specs.Chunk.{Chunk}
use Rattle.container_model.specs.Items as items
use Rattle.qt_text.specs.User.{user_items}

-- the values of a map stand behind those that were there
abbrev pub Grows : List Entry → List Entry → FieldMap → Type 0
Grows old new f = (n : FieldName) → values new n ≡ values old n ++ f n

-- these values under one name
abbrev pub under : FieldName → List Value → FieldMap
under name vs n = if same_name name n then vs else []

-- the texts of user items
abbrev pub texts_held : List Chunk → FieldMap
texts_held cs (User id) = items.values user_items id.0 cs
texts_held cs _ = []

-- fields that were lawful are lawful still
abbrev pub StayLawful : List Entry → List Entry → Type 0
StayLawful old new = IsLawful (values old) → IsLawful (values new)
