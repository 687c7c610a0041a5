-- The keys of a table as a planner holds them, and an edit of them.
use Rattle.std.specs.Prelude.{◌≡◌, ◌≤◌, ◌<◌, ◌^◌, ℕ, List, length, map, Option, Some, None, Result}
use Rattle.std.specs.Option.{ForSome}
use Rattle.std.specs.declared.result.Result.TheVariants.{Ok, Err}
use Rattle.me_bytes.specs.Bytes.{IsBytes}
use Rattle.container_model.specs.Items.{Item}
use Rattle.mov_model.specs.Keys.{with_keys}
use Rattle.qt_keys.specs.Set.{IsKeyValue, index_of, with_entry, with_item, without_item}
use Rattle.qt_keys.specs.Table.{table_bytes}
use Rattle.qt_keys.specs.declared.table.KeyChild.{KeyChild}
use Rattle.qt_keys.specs.declared.table.KeyChild.TheVariants.{Items, Keys, Other}
use Rattle.qt_keys.specs.declared.table.KeyEntry.{KeyEntry}
use Rattle.qt_keys.specs.declared.table.KeyItem.{KeyItem}
use Rattle.qt_keys.specs.declared.table.KeyTable.{KeyTable}
use Rattle.mov_plan.specs.declared.keys.KeyChange.{KeyChange}
use Rattle.mov_plan.specs.declared.keys.KeysFault.{KeysFault}
use Rattle.mov_plan.specs.declared.keys.KeysFault.TheVariants.{TooLarge, Memory}

-- the item of an edit that a change is
abbrev pub change_of : KeyChange → Item (List ℕ)
change_of c = record { name = c.name; value = c.value }

-- the edit that some changes are, in order
abbrev pub changes_of : List KeyChange → List (Item (List ℕ))
changes_of changes = map change_of changes

-- a value has its type and its locale
abbrev pub CanPut : KeyChange → Type 0
CanPut c = IsKeyValue c.value

-- its name and its value are bytes
abbrev pub AreBytes : KeyChange → Type 0
AreBytes c = IsBytes c.name × ForSome c.value (λ raw. IsBytes raw)

-- a child with these entries and items
abbrev pub child_with : List KeyEntry → List KeyItem → KeyChild → KeyChild
child_with es is (Other bytes) = Other bytes
child_with es is (Keys head entries) = Keys head es
child_with es is (Items items) = Items is

-- a table with these entries and items
abbrev pub table_with : List KeyEntry → List KeyItem → KeyTable → KeyTable
table_with es is t = record { children = map (child_with es is) t.children }

-- the entries after a change, and the items
abbrev pub entries_put : List ℕ → Option (List ℕ) → List KeyEntry → List KeyEntry
entries_put name None es = es
entries_put name (Some raw) es = with_entry name es

abbrev pub items_put : List ℕ → Option (List ℕ) → List KeyEntry → List KeyItem → List KeyItem
items_put name None es is = without_item (index_of name es) is
items_put name (Some raw) es is = with_item (index_of name es) raw is

-- The edited body, or how large it is where that is more than 16 MiB.
abbrev pub IsKeyed : List (Item (List ℕ)) → KeyTable → Result (List ℕ) KeysFault → Type 0
IsKeyed e t (Ok bytes) = (bytes ≡ table_bytes (with_keys e t)) × (length bytes ≤ 2 ^ 24)
IsKeyed e t (Err (TooLarge size)) = (size ≡ length (table_bytes (with_keys e t))) × (2 ^ 24 < size)
IsKeyed e t (Err Memory) = Unit {0}
