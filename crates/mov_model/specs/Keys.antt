-- The key table of a movie: the body of the first `meta` in moov that is one, what an edit makes of it, and a new one (which `meta` is opened is this project's own).
use Rattle.std.specs.Prelude.{Bool, List, None, Option, Some, [], codes, false, if◌then◌else◌, is_some, map, replicate, ℕ, ◌&&◌, ◌++◌, ◌-◌, ◌==◌, ◌∷◌}
use Rattle.container_model.specs.Atoms.{atom, is}
use Rattle.container_model.specs.Chunk.{Chunk, spell}
use Rattle.container_model.specs.Items.{Item}
use Rattle.carrier_model.specs.Lists.{sets_some}
use Rattle.part_tree.specs.Keys.{is_key_name}
use Rattle.qt_keys.specs.Read.{key_table}
use Rattle.qt_keys.specs.Set.{with_key}
use Rattle.qt_keys.specs.Table.{entries_of, is_key, table_bytes}
use Rattle.qt_keys.specs.declared.table.KeyChild.{KeyChild}
use Rattle.qt_keys.specs.declared.table.KeyChild.TheVariants.{Items, Keys, Other}
use Rattle.qt_keys.specs.declared.table.KeyEntry.{KeyEntry}
use Rattle.qt_keys.specs.declared.table.KeyItem.{KeyItem}
use Rattle.qt_keys.specs.declared.table.KeyTable.{KeyTable}

-- ---- the table that is read

-- a table without anything in it, where there is none
abbrev pub no_table : KeyTable
no_table = record { children = [] }

-- the table, or the empty one
abbrev pub table_or : Option KeyTable → KeyTable
table_or None = no_table
table_or (Some t) = t

-- the key table in an atom
abbrev pub table_in : Chunk → KeyTable
table_in c = table_or (key_table c.body)

-- a `meta` whose body is a key table
abbrev pub is_meta : Chunk → Bool
is_meta c = is c (codes "meta") && is_some (key_table c.body)

-- the table of the first
abbrev pub first_table : List Chunk → KeyTable
first_table [] = no_table
first_table (c ∷ cs) = if is_meta c then table_in c else first_table cs

-- ---- the table after an edit

-- each item sets or removes a key
abbrev pub with_keys : List (Item (List ℕ)) → KeyTable → KeyTable
with_keys [] t = t
with_keys (i ∷ e) t = with_keys e (with_key i.name i.value t)

-- an opened `meta` keeps its header form
abbrev pub edit_meta : List (Item (List ℕ)) → Chunk → Chunk
edit_meta e c = record c { body = table_bytes (with_keys e (table_in c)) }

-- the handler of keys: 25 bytes, zeros but for its type
abbrev pub handler : List ℕ
handler = spell (atom (codes "hdlr") (replicate 8 0 ++ (codes "mdta" ++ replicate 13 0)))

-- a table with the handler, no keys and no items
abbrev pub new_table : KeyTable
new_table = record { children = Other handler ∷ (Keys 0 [] ∷ (Items [] ∷ [])) }

-- a new `meta`, where something is set
abbrev pub new_meta : List (Item (List ℕ)) → Option Chunk
new_meta e = if sets_some e then Some (atom (codes "meta") (table_bytes (with_keys e new_table))) else None

-- ---- what is kept of a table

-- an entry is a field where it is a key with the name of one
abbrev pub is_field : KeyEntry → Bool
is_field e = is_key e && is_key_name e.name

-- the entry with an index, counted from 1, is a field
abbrev pub is_field_at : List KeyEntry → ℕ → Bool
is_field_at [] n = false
is_field_at (e ∷ es) n = if n == 1 then is_field e else is_field_at es (n - 1)

-- of an item that is a field its index alone is told
abbrev pub bare_item : List KeyEntry → KeyItem → KeyItem
bare_item es i = if is_field_at es i.index then record i { values = [] } else i

-- the same of all items
abbrev pub bare_child : List KeyEntry → KeyChild → KeyChild
bare_child es (Other bytes) = Other bytes
bare_child es (Keys head entries) = Keys head entries
bare_child es (Items items) = Items (map (bare_item es) items)

-- a table of which the values of fields aren't told
abbrev pub bare : KeyTable → KeyTable
bare t = record { children = map (bare_child (entries_of t)) t.children }
