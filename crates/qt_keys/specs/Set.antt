-- A key table with a key set or removed, and what a key has (this project's own).
use Rattle.std.specs.Prelude.{Bool, List, None, Option, Some, [], codes, if◌then◌else◌, length, map, suc, ℕ, ◌&&◌, ◌+◌, ◌==◌, ◌≤◌, ◌∷◌}
use Rattle.std.specs.Str.{bytes_eq}
use Rattle.part_tree.specs.Letters.{four}
use Rattle.qt_keys.specs.Table.{entries_of, is_key, items_of}
use Rattle.qt_keys.specs.declared.table.KeyTable.{KeyTable}
use Rattle.qt_keys.specs.declared.table.KeyChild.{KeyChild}
use Rattle.qt_keys.specs.declared.table.KeyChild.TheVariants.{Other, Keys, Items}
use Rattle.qt_keys.specs.declared.table.KeyEntry.{KeyEntry}
use Rattle.qt_keys.specs.declared.table.KeyItem.{KeyItem}

-- the entry of a key
abbrev pub names : List ℕ → KeyEntry → Bool
names name e = is_key e && bytes_eq e.name name

-- The index of a key's entry, from 1; where there is none, the one behind all.
abbrev pub index_of : List ℕ → List KeyEntry → ℕ
index_of name [] = 1
index_of name (e ∷ es) = if names name e then 1 else suc (index_of name es)

-- a new entry
abbrev pub new_entry : List ℕ → KeyEntry
new_entry name = record { space = four (codes "mdta"); name = name }

-- the entries with a key among them; a new one stands last
abbrev pub with_entry : List ℕ → List KeyEntry → List KeyEntry
with_entry name [] = new_entry name ∷ []
with_entry name (e ∷ es) = if names name e then e ∷ es else e ∷ with_entry name es

-- an item with one value
abbrev pub item_of : ℕ → List ℕ → KeyItem
item_of index raw = record { index = index; values = raw ∷ [] }

-- the items with this one value under an index; a new one stands last
abbrev pub with_item : ℕ → List ℕ → List KeyItem → List KeyItem
with_item index raw [] = item_of index raw ∷ []
with_item index raw (i ∷ is) = if i.index == index then item_of index raw ∷ is else i ∷ with_item index raw is

-- the items without that of an index
abbrev pub without_item : ℕ → List KeyItem → List KeyItem
without_item index [] = []
without_item index (i ∷ is) = if i.index == index then is else i ∷ without_item index is

-- a child where a key is set
abbrev pub child_set : List ℕ → ℕ → List ℕ → KeyChild → KeyChild
child_set name index raw (Other bytes) = Other bytes
child_set name index raw (Keys head entries) = Keys head (with_entry name entries)
child_set name index raw (Items items) = Items (with_item index raw items)

-- and where one is removed: its entry stays
abbrev pub child_without : ℕ → KeyChild → KeyChild
child_without index (Other bytes) = Other bytes
child_without index (Keys head entries) = Keys head entries
child_without index (Items items) = Items (without_item index items)

-- a table with a key set to one value, or removed
abbrev pub with_key : List ℕ → Option (List ℕ) → KeyTable → KeyTable
with_key name None t = record { children = map (child_without (index_of name (entries_of t))) t.children }
with_key name (Some raw) t = record { children = map (child_set name (index_of name (entries_of t)) raw) t.children }

-- the values of an index
abbrev pub values_at : ℕ → List KeyItem → List (List ℕ)
values_at index [] = []
values_at index (i ∷ is) = if i.index == index then i.values else values_at index is

-- the values of a key
abbrev pub key_values : List ℕ → KeyTable → List (List ℕ)
key_values name t = values_at (index_of name (entries_of t)) (items_of t)

-- what may be set: a value has at least its type and its locale
abbrev pub IsKeyValue : Option (List ℕ) → Type 0
IsKeyValue None = Unit {0}
IsKeyValue (Some raw) = 8 ≤ length raw

-- the most bytes by which a table's spelling grows: an entry, and an item with its value
abbrev pub growth : List ℕ → Option (List ℕ) → ℕ
growth name None = 0
growth name (Some raw) = (8 + length name) + (16 + length raw)
