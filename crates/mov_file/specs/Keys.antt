-- The values of the keys of a table, item by item.
use Rattle.std.specs.Prelude.{ℕ, ◌-◌, List, [], ◌∷◌, ◌++◌, map, Bool, ◌&&◌, ◌==◌, false, if◌then◌else◌}
use Rattle.std.specs.Str.{bytes_eq}
use Rattle.part_tree.specs.Keys.{is_key_name}
use Rattle.part_tree.specs.declared.field.FieldName.{FieldName}
use Rattle.part_tree.specs.declared.field.FieldName.TheVariants.{Key}
use Rattle.part_tree.specs.declared.field.Value.{Value}
use Rattle.field_model.specs.Fields.{FieldMap, plain}
use Rattle.qt_keys.specs.Set.{key_values, names}
use Rattle.qt_keys.specs.declared.table.KeyEntry.{KeyEntry}
use Rattle.qt_keys.specs.declared.table.KeyItem.{KeyItem}
use Rattle.qt_keys.specs.declared.table.KeyTable.{KeyTable}

-- the entry of this number, from 1, is that of a key
abbrev pub names_at : List ℕ → List KeyEntry → ℕ → Bool
names_at name [] n = false
names_at name (e ∷ es) n = if n == 1 then names name e else names_at name es (n - 1)

-- the values of a key in an item
abbrev pub item_values : List KeyEntry → KeyItem → List ℕ → List (List ℕ)
item_values es i name = if names_at name es i.index then i.values else []

-- the values of a key in some items, where it is a field
abbrev pub values_held : List KeyEntry → List ℕ → List KeyItem → List Value
values_held es name [] = []
values_held es name (i ∷ is) = (if is_key_name name then map plain (item_values es i name) else []) ++ values_held es name is

-- the values of keys that are fields, in some items
abbrev pub items_held : List KeyEntry → List KeyItem → FieldMap
items_held es is (Key name) = values_held es name is
items_held es is _ = []

-- the values of the keys of a table that are fields
abbrev pub keys_held : KeyTable → FieldMap
keys_held t (Key name) = if is_key_name name then map plain (key_values name t) else []
keys_held t _ = []
