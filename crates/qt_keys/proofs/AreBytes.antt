-- A key table with a key set or removed is spelled in bytes.
use Rattle.std.proofs.Common.{ℕ, zero, suc, ◌+◌, Bool, true, false, cond, List, [], ◌∷◌, ◌++◌, length, map, arith, Option, Some, None}
use Rattle.std.specs.Prelude.{codes, ◌==◌}
use Rattle.std.specs.Int.{to_be_bytes, w32}
use Rattle.std.specs.List.{flat_map}
use Rattle.me_bytes.specs.Bytes.{IsBytes}
use Rattle.container_model.proofs.Codec.{IsBytes-behind}
use Rattle.container_model.proofs.Deep.{IsBytes-front}
use Rattle.container_model.specs.Atoms.{atom}
use Rattle.container_model.specs.Chunk.{spell, spell_all}
use Rattle.qt_keys.specs.Set.{child_set, child_without, index_of, item_of, names, with_entry, with_item, with_key, without_item}
use Rattle.qt_keys.specs.Table.{child_bytes, entries_of, entry_atom, item_atom, table_bytes, value_atom}
use Rattle.qt_keys.specs.declared.table.KeyChild.{KeyChild}
use Rattle.qt_keys.specs.declared.table.KeyChild.TheVariants.{Other, Keys, Items}
use Rattle.qt_keys.specs.declared.table.KeyEntry.{KeyEntry}
use Rattle.qt_keys.specs.declared.table.KeyItem.{KeyItem}
use Rattle.qt_keys.specs.declared.table.KeyTable.{KeyTable}

join : (a b : List ℕ) → IsBytes a → IsBytes b → IsBytes (a ++ b)
join [] b ha hb i = hb i
join (x ∷ a) b ha hb zero = ha 0
join (x ∷ a) b ha hb (suc i) = join a b (λ j. ha (suc j)) hb i

none : IsBytes []
none zero = omega arith
none (suc i) = omega arith

four : (n : ℕ) → IsBytes (to_be_bytes w32 n)
four n zero = omega arith
four n (suc zero) = omega arith
four n (suc (suc zero)) = omega arith
four n (suc (suc (suc zero))) = omega arith
four n (suc (suc (suc (suc i)))) = none i

spelled : (id body : List ℕ) → IsBytes id → IsBytes body → IsBytes (spell (atom id body))
spelled id body h b = join (to_be_bytes w32 (length body + 8) ++ id) (body ++ []) (join (to_be_bytes w32 (length body + 8)) id (four (length body + 8)) h) (join body [] b none)

id_of : (id body : List ℕ) → IsBytes (spell (atom id body)) → IsBytes id
id_of id body h = IsBytes-behind (to_be_bytes w32 (length body + 8)) id (IsBytes-front (to_be_bytes w32 (length body + 8) ++ id) (body ++ []) h)

body_of : (id body : List ℕ) → IsBytes (spell (atom id body)) → IsBytes body
body_of id body h = IsBytes-front body [] (IsBytes-behind (to_be_bytes w32 (length body + 8) ++ id) (body ++ []) h)

data_id : IsBytes (codes "data")
data_id zero = omega arith
data_id (suc zero) = omega arith
data_id (suc (suc zero)) = omega arith
data_id (suc (suc (suc zero))) = omega arith
data_id (suc (suc (suc (suc i)))) = none i

key_id : IsBytes (codes "mdta")
key_id zero = omega arith
key_id (suc zero) = omega arith
key_id (suc (suc zero)) = omega arith
key_id (suc (suc (suc zero))) = omega arith
key_id (suc (suc (suc (suc i)))) = none i

abbrev Entries : List KeyEntry → Type 0
Entries es = IsBytes (spell_all (map entry_atom es))

entries : (name : List ℕ) (es : List KeyEntry) → IsBytes name → Entries es → Entries (with_entry name es)
entries name [] n h = join (spell (atom (codes "mdta") name)) [] (spelled (codes "mdta") name key_id n) none
entries name (e ∷ es) n h = go (names name e) (entries name es n (IsBytes-behind (spell (entry_atom e)) (spell_all (map entry_atom es)) h))
  where
    go : (t : Bool) → Entries (with_entry name es) → Entries (cond t (e ∷ es) (e ∷ with_entry name es))
    go true more = h
    go false more = join (spell (entry_atom e)) (spell_all (map entry_atom (with_entry name es))) (IsBytes-front (spell (entry_atom e)) (spell_all (map entry_atom es)) h) more

abbrev Items' : List KeyItem → Type 0
Items' is = IsBytes (spell_all (map item_atom is))

one_item : (index : ℕ) (raw : List ℕ) → IsBytes raw → IsBytes (spell (item_atom (item_of index raw)))
one_item index raw r = spelled (to_be_bytes w32 index) (spell_all (value_atom raw ∷ [])) (four index) (join (spell (atom (codes "data") raw)) [] (spelled (codes "data") raw data_id r) none)

items : (index : ℕ) (raw : List ℕ) (is : List KeyItem) → IsBytes raw → Items' is → Items' (with_item index raw is)
items index raw [] r h = join (spell (item_atom (item_of index raw))) [] (one_item index raw r) none
items index raw (i ∷ is) r h =
    let rest = IsBytes-behind (spell (item_atom i)) (spell_all (map item_atom is)) h in
    go (i.index == index) rest (items index raw is r rest)
  where
    go : (t : Bool) → Items' is → Items' (with_item index raw is) → Items' (cond t (item_of index raw ∷ is) (i ∷ with_item index raw is))
    go true rest more = join (spell (item_atom (item_of index raw))) (spell_all (map item_atom is)) (one_item index raw r) rest
    go false rest more = join (spell (item_atom i)) (spell_all (map item_atom (with_item index raw is))) (IsBytes-front (spell (item_atom i)) (spell_all (map item_atom is)) h) more

left : (index : ℕ) (is : List KeyItem) → Items' is → Items' (without_item index is)
left index [] h = h
left index (i ∷ is) h =
    let rest = IsBytes-behind (spell (item_atom i)) (spell_all (map item_atom is)) h in
    go (i.index == index) rest (left index is rest)
  where
    go : (t : Bool) → Items' is → Items' (without_item index is) → Items' (cond t is (i ∷ without_item index is))
    go true rest more = rest
    go false rest more = join (spell (item_atom i)) (spell_all (map item_atom (without_item index is))) (IsBytes-front (spell (item_atom i)) (spell_all (map item_atom is)) h) more

keys_bytes : (head count : ℕ) (body rest : List ℕ) → IsBytes (spell (atom (codes "keys") (to_be_bytes w32 head ++ (to_be_bytes w32 count ++ body)))) → IsBytes body
keys_bytes head count body rest h = IsBytes-behind (to_be_bytes w32 count) body (IsBytes-behind (to_be_bytes w32 head) (to_be_bytes w32 count ++ body) (body_of (codes "keys") (to_be_bytes w32 head ++ (to_be_bytes w32 count ++ body)) h))

child : (name : List ℕ) (index : ℕ) (raw : List ℕ) (c : KeyChild) → IsBytes name → IsBytes raw → IsBytes (child_bytes c) → IsBytes (child_bytes (child_set name index raw c))
child name index raw (Other bytes) n r h = h
child name index raw (Keys head es) n r h =
    let id = id_of (codes "keys") (to_be_bytes w32 head ++ (to_be_bytes w32 (length es) ++ spell_all (map entry_atom es))) h in
    let es' = with_entry name es in
    let more = entries name es n (keys_bytes head (length es) (spell_all (map entry_atom es)) [] h) in
    spelled (codes "keys") (to_be_bytes w32 head ++ (to_be_bytes w32 (length es') ++ spell_all (map entry_atom es'))) id (join (to_be_bytes w32 head) (to_be_bytes w32 (length es') ++ spell_all (map entry_atom es')) (four head) (join (to_be_bytes w32 (length es')) (spell_all (map entry_atom es')) (four (length es')) more))
child name index raw (Items is) n r h =
    let body = spell_all (map item_atom is) in
    spelled (codes "ilst") (spell_all (map item_atom (with_item index raw is))) (id_of (codes "ilst") body h) (items index raw is r (body_of (codes "ilst") body h))

child_left : (index : ℕ) (c : KeyChild) → IsBytes (child_bytes c) → IsBytes (child_bytes (child_without index c))
child_left index (Other bytes) h = h
child_left index (Keys head es) h = h
child_left index (Items is) h =
    let body = spell_all (map item_atom is) in
    spelled (codes "ilst") (spell_all (map item_atom (without_item index is))) (id_of (codes "ilst") body h) (left index is (body_of (codes "ilst") body h))

each : (g : KeyChild → KeyChild) → ((c : KeyChild) → IsBytes (child_bytes c) → IsBytes (child_bytes (g c))) → (cs : List KeyChild) → IsBytes (flat_map child_bytes cs) → IsBytes (flat_map child_bytes (map g cs))
each g h [] b = none
each g h (c ∷ cs) b =
    join (child_bytes (g c)) (flat_map child_bytes (map g cs)) (h c (IsBytes-front (child_bytes c) (flat_map child_bytes cs) b)) (each g h cs (IsBytes-behind (child_bytes c) (flat_map child_bytes cs) b))

-- bytes that may be set
abbrev pub AreBytes : Option (List ℕ) → Type 0
AreBytes None = Unit {0}
AreBytes (Some raw) = IsBytes raw

pub bytes_set : (name : List ℕ) (raw : Option (List ℕ)) (t : KeyTable) → IsBytes name → AreBytes raw → IsBytes (table_bytes t) → IsBytes (table_bytes (with_key name raw t))
bytes_set name None t n r h = each (child_without (index_of name (entries_of t))) (child_left (index_of name (entries_of t))) t.children h
bytes_set name (Some raw) t n r h = each (child_set name (index_of name (entries_of t)) raw) (λ c b. child name (index_of name (entries_of t)) raw c n r b) t.children h
