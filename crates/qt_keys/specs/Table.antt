-- A key table, as it is spelled, and which of them are lawful (QuickTime File Format, metadata; which are read is this project's own).
use Rattle.std.specs.Prelude.{Bool, List, [], codes, count_by, drop, false, if◌then◌else◌, length, map, nat_eq, nat_le, not, take, true, ℕ, ◌&&◌, ◌++◌, ◌==◌, ◌||◌, ◌∷◌}
use Rattle.std.specs.Int.{to_be_bytes, w32}
use Rattle.std.specs.List.{flat_map, list_all, list_any}
use Rattle.std.specs.Str.{bytes_eq}
use Rattle.container_model.specs.Atoms.{atom}
use Rattle.container_model.specs.Chunk.{Chunk, spell, spell_all}
use Rattle.qt_keys.specs.declared.table.KeyTable.{KeyTable}
use Rattle.qt_keys.specs.declared.table.KeyChild.{KeyChild}
use Rattle.qt_keys.specs.declared.table.KeyChild.TheVariants.{Other, Keys, Items}
use Rattle.qt_keys.specs.declared.table.KeyEntry.{KeyEntry}
use Rattle.qt_keys.specs.declared.table.KeyItem.{KeyItem}

-- ---- as it is spelled

-- an entry: its size, its namespace and its name, spelled as an atom is
abbrev pub entry_atom : KeyEntry → Chunk
entry_atom e = atom e.space.0 e.name

-- a value: type, locale and the value itself
abbrev pub value_atom : List ℕ → Chunk
value_atom v = atom (codes "data") v

-- an item has its index for a type, and its values
abbrev pub item_atom : KeyItem → Chunk
item_atom i = atom (to_be_bytes w32 i.index) (spell_all (map value_atom i.values))

-- a child: `keys` with version and flags, a count and the entries, `ilst` with the items, or another
abbrev pub child_bytes : KeyChild → List ℕ
child_bytes (Other bytes) = bytes
child_bytes (Keys head entries) = spell (atom (codes "keys") (to_be_bytes w32 head ++ (to_be_bytes w32 (length entries) ++ spell_all (map entry_atom entries))))
child_bytes (Items items) = spell (atom (codes "ilst") (spell_all (map item_atom items)))

-- the body of `meta`
abbrev pub table_bytes : KeyTable → List ℕ
table_bytes t = flat_map child_bytes t.children

-- ---- its entries and items

-- the entries of the first `keys`
abbrev pub entries_among : List KeyChild → List KeyEntry
entries_among [] = []
entries_among (Other bytes ∷ cs) = entries_among cs
entries_among (Keys head entries ∷ cs) = entries
entries_among (Items items ∷ cs) = entries_among cs

-- the items of the first `ilst`
abbrev pub items_among : List KeyChild → List KeyItem
items_among [] = []
items_among (Other bytes ∷ cs) = items_among cs
items_among (Keys head entries ∷ cs) = items_among cs
items_among (Items items ∷ cs) = items

-- the entries of a table
abbrev pub entries_of : KeyTable → List KeyEntry
entries_of t = entries_among t.children

-- the items of a table
abbrev pub items_of : KeyTable → List KeyItem
items_of t = items_among t.children

-- an entry of the namespace in which names are keys
abbrev pub is_key : KeyEntry → Bool
is_key e = bytes_eq e.space.0 (codes "mdta")

-- the name of an entry, where it is a key
abbrev pub key_names : KeyEntry → List (List ℕ)
key_names e = if is_key e then e.name ∷ [] else []

-- ---- which are lawful

-- no two of these are the same
abbrev pub all_differ : {A : Type 0} → (A → A → Bool) → List A → Bool
all_differ same [] = true
all_differ same (x ∷ xs) = not (list_any (same x) xs) && all_differ same xs

-- a child that is `hdlr`, `keys` or `ilst`
abbrev pub is_handler : KeyChild → Bool
is_handler (Other bytes) = bytes_eq (take 4 (drop 4 bytes)) (codes "hdlr")
is_handler (Keys head entries) = false
is_handler (Items items) = false

abbrev pub is_keys : KeyChild → Bool
is_keys (Other bytes) = false
is_keys (Keys head entries) = true
is_keys (Items items) = false

abbrev pub is_items : KeyChild → Bool
is_items (Other bytes) = false
is_items (Keys head entries) = false
is_items (Items items) = true

-- a handler has a body of at least 12 bytes, with `mdta` at 8
abbrev pub handles_keys : KeyChild → Bool
handles_keys (Other bytes) = not (is_handler (Other bytes)) || (nat_le 20 (length bytes) && bytes_eq (take 4 (drop 16 bytes)) (codes "mdta"))
handles_keys (Keys head entries) = true
handles_keys (Items items) = true

-- an item's index is one of the entries, from 1
abbrev pub is_within : ℕ → KeyItem → Bool
is_within count i = nat_le 1 i.index && nat_le i.index count

-- exactly one `hdlr`, one `keys` and one `ilst`
abbrev pub has_each_once : List KeyChild → Bool
has_each_once cs = (count_by is_handler cs == 1) && ((count_by is_keys cs == 1) && (count_by is_items cs == 1))

-- no two entries of the namespace have the same name
abbrev pub names_differ : List KeyEntry → Bool
names_differ es = all_differ bytes_eq (flat_map key_names es)

-- the index of an item
abbrev pub index_in : KeyItem → ℕ
index_in i = i.index

-- each index is that of an entry, and none comes twice
abbrev pub indexes_fit : ℕ → List KeyItem → Bool
indexes_fit count is = list_all (is_within count) is && all_differ nat_eq (map index_in is)

-- Each once, the handler one of keys, no key twice, and an item's index that of an entry, none twice.
abbrev pub is_lawful : List KeyChild → Bool
is_lawful cs = (has_each_once cs && list_all handles_keys cs) && (names_differ (entries_among cs) && indexes_fit (length (entries_among cs)) (items_among cs))
