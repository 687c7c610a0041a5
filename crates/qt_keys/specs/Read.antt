-- The body of `meta`, read as a key table (QuickTime File Format, metadata; which bodies are key tables is this project's own).
use Rattle.std.specs.Prelude.{Bool, List, None, Option, Some, [], codes, drop, false, if◌then◌else◌, length, nat_le, take, true, ℕ, ◌&&◌, ◌==◌, ◌^◌, ◌≡◌, ◌∷◌}
use Rattle.std.specs.Int.{from_be_bytes, w32}
use Rattle.me_bytes.specs.Bytes.{IsBytes}
use Rattle.container_model.specs.Atoms.{is}
use Rattle.container_model.specs.Chunk.{Chunk, spell}
use Rattle.part_tree.specs.Letters.{four}
use Rattle.qt_keys.specs.Short.{each}
use Rattle.qt_keys.specs.Table.{is_lawful, table_bytes}
use Rattle.qt_keys.specs.declared.table.KeyTable.{KeyTable}
use Rattle.qt_keys.specs.declared.table.KeyChild.{KeyChild}
use Rattle.qt_keys.specs.declared.table.KeyChild.TheVariants.{Other, Keys, Items}
use Rattle.qt_keys.specs.declared.table.KeyEntry.{KeyEntry}
use Rattle.qt_keys.specs.declared.table.KeyItem.{KeyItem}

-- an entry, of any namespace
abbrev pub entry_read : Chunk → Option KeyEntry
entry_read c = Some (record { space = four c.id; name = c.body })

-- a value stands in `data` and has at least eight bytes, its type and its locale
abbrev pub value_read : Chunk → Option (List ℕ)
value_read c = if is c (codes "data") && nat_le 8 (length c.body) then Some c.body else None

-- an item has one value or more
abbrev pub item_with : Chunk → Option (List (List ℕ)) → Option KeyItem
item_with c None = None
item_with c (Some []) = None
item_with c (Some (v ∷ vs)) = Some (record { index = from_be_bytes w32 c.id; values = v ∷ vs })

abbrev pub item_read : Chunk → Option KeyItem
item_read c = item_with c (each value_read c.body)

-- `keys`: as many entries as its count, which fill what follows
abbrev pub keys_with : List ℕ → Option (List KeyEntry) → Option KeyChild
keys_with b None = None
keys_with b (Some entries) = if length entries == from_be_bytes w32 (take 4 (drop 4 b)) then Some (Keys (from_be_bytes w32 (take 4 b)) entries) else None

abbrev pub keys_read : List ℕ → Bool → Option KeyChild
keys_read b true = keys_with b (each entry_read (drop 8 b))
keys_read b false = None

-- `ilst`: its items
abbrev pub items_read : Option (List KeyItem) → Option KeyChild
items_read None = None
items_read (Some items) = Some (Items items)

-- a child by its type
abbrev pub child_by : Chunk → Bool → Bool → Option KeyChild
child_by c true items = keys_read c.body (nat_le 8 (length c.body))
child_by c false true = items_read (each item_read c.body)
child_by c false false = Some (Other (spell c))

abbrev pub child_read : Chunk → Option KeyChild
child_read c = child_by c (is c (codes "keys")) (is c (codes "ilst"))

-- children that make a lawful table
abbrev pub table_with : Option (List KeyChild) → Option KeyTable
table_with None = None
table_with (Some children) = if is_lawful children then Some (record { children = children }) else None

-- The key table that some bytes are, or none: they have at most 16 MiB.
unfoldable pub key_table : List ℕ → Option KeyTable
key_table b = if nat_le (length b) (2 ^ 24) then table_with (each child_read b) else None

-- a table that is read of a body, which is then its spelling
pub record IsRead (t : KeyTable) : Type 0 where
  pub bytes : IsBytes (table_bytes t)
  pub read : key_table (table_bytes t) ≡ Some t
