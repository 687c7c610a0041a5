-- The fields of a movie, and the new file after an edit of them.
use Rattle.std.specs.Prelude.{if◌then◌else◌, List, [], ◌∷◌, map, ℕ, Option, option_map}
use Rattle.std.specs.List.{flat_map}
use Rattle.part_tree.specs.Keys.{is_key_name}
use Rattle.part_tree.specs.Names.{is_user_type}
use Rattle.part_tree.specs.declared.field.EditItem.{EditItem}
use Rattle.part_tree.specs.declared.field.FieldName.{FieldName}
use Rattle.part_tree.specs.declared.field.FieldName.TheVariants.{User, Key}
use Rattle.part_tree.specs.declared.field.Value.{Value}
use Rattle.field_model.specs.Fields.{FieldMap, plain}
use Rattle.field_model.specs.Update.{RawItem, raw_items}
use Rattle.container_model.specs.Items.{Item, values}
use Rattle.mov_model.specs.Carried.{Changes}
use Rattle.mov_model.specs.Keys.{first_table}
use Rattle.mov_model.specs.Movie.{movie_of}
use Rattle.mov_model.specs.New.{edited_file}
use Rattle.mov_model.specs.Parts.{first_items, parts}
use Rattle.qt_keys.specs.Set.{key_values}
use Rattle.qt_text.specs.User.{user_items}

-- the fields of a movie: the texts of its user items by their types, and the values of its keys by their names
abbrev pub fields : List ℕ → FieldMap
fields b (User id) = values user_items id.0 (first_items (parts (movie_of b)))
fields b (Key name) = if is_key_name name then map plain (key_values name (first_table (parts (movie_of b)))) else []
fields b name = []

-- an item that sets or removes one type of user items
abbrev pub user_item : FieldName → Option Value → List (Item Value)
user_item (User id) value = if is_user_type id.0 then record { name = id.0; value = value } ∷ [] else []
user_item name value = []

-- an item that sets or removes a key
abbrev pub key_item : FieldName → Option Value → List (Item (List ℕ))
key_item (Key name) value = if is_key_name name then record { name = name; value = option_map (λ (v : Value). v.raw) value } ∷ [] else []
key_item name value = []

-- what items do to the user data and to the key table, in order
abbrev pub changed_by : List RawItem → Changes
changed_by e = record { users = flat_map (λ (i : RawItem). user_item i.name i.value) e; keys = flat_map (λ (i : RawItem). key_item i.name i.value) e }

-- what the items of an edit that have an effect do
abbrev pub changes : List ℕ → List EditItem → Changes
changes o e = changed_by (raw_items (fields o) e)

-- the new file
abbrev pub new_file : List ℕ → List EditItem → List ℕ
new_file o e = edited_file o (changes o e)
