-- Key tables of movies: what an edit makes of one is read again, has the values that were set, and is bare as the old one is.
use Rattle.std.proofs.Common.{Bool, List, None, Option, Some, [], ap, arith, cond, false, length, map, refl, sym, true, ℕ, ◌++◌, ◌-◌, ◌∙◌, ◌∷◌, ◌≡◌, ◌≢◌, ◌≤◌}
use Rattle.std.specs.Prelude.{IfSome, codes, is_some, ◌&&◌, ◌==◌}
use Rattle.std.proofs.lemmas.Bool.{and_parts}
use Rattle.std.specs.List.{AllByRecursion}
use Rattle.std.specs.Str.{bytes_eq}
use Rattle.me_bytes.specs.Bytes.{IsBytes}
use Rattle.carrier_model.specs.Lists.{sets_some}
use Rattle.container_model.proofs.Items.{same_refl, same_true}
use Rattle.container_model.specs.Atoms.{atom, is}
use Rattle.container_model.specs.Chunk.{Chunk}
use Rattle.container_model.specs.Items.{Item, listed, updated}
use Rattle.mov_model.specs.Keys.{bare, bare_child, bare_item, edit_meta, first_table, is_field, is_field_at, is_meta, new_table, no_table, table_in, table_or, with_keys}
use Rattle.mov_model.specs.Parts.{first_of}
use Rattle.mov_model.proofs.Fits.{KeyItems, SmallBody}
use Rattle.qt_keys.proofs.Again.{Well, WellChild, WellItem, well_again}
use Rattle.qt_keys.proofs.Found.{read_well}
use Rattle.qt_keys.proofs.Keyed.{key_is_set, others_stay, well_set}
use Rattle.qt_keys.specs.Read.{key_table}
use Rattle.qt_keys.specs.Set.{child_set, child_without, index_of, item_of, key_values, names, values_at, with_entry, with_item, with_key, without_item}
use Rattle.qt_keys.specs.Table.{entries_among, entries_of, items_among, items_of, table_bytes}
use Rattle.qt_keys.specs.declared.table.KeyChild.{KeyChild}
use Rattle.qt_keys.specs.declared.table.KeyChild.TheVariants.{Items, Keys, Other}
use Rattle.qt_keys.specs.declared.table.KeyEntry.{KeyEntry}
use Rattle.qt_keys.specs.declared.table.KeyItem.{KeyItem}
use Rattle.qt_keys.specs.declared.table.KeyTable.{KeyTable}

-- ---- tables that are well

-- the table of a `meta`
pub table_is : (c : Chunk) → is_meta c ≡ true → key_table c.body ≡ Some (table_in c)
table_is c m = go (key_table c.body) refl
  where
    go : (o : Option KeyTable) → key_table c.body ≡ o → key_table c.body ≡ Some (table_or (key_table c.body))
    go (Some t) e = e ∙ ap (λ (p : Option KeyTable). Some (table_or p)) (sym e)
    go None e = let no : is_some (key_table c.body) ≡ false = ap is_some e in let yes = (and_parts (is c (codes "meta")) (is_some (key_table c.body)) m).1 in absurd cc

pub table_well : (c : Chunk) → is_meta c ≡ true → IsBytes c.body → Well (table_in c)
table_well c m b = read_well c.body (table_in c) b (table_is c m)

pub keys_well : (e : List (Item (List ℕ))) (t : KeyTable) → KeyItems e → Well t → Well (with_keys e t)
keys_well [] t k w = w
keys_well (i ∷ e) t k w = keys_well e (with_key i.name i.value t) k.1 (well_set i.name i.value t k.0 w)

pub new_well : Well new_table
new_well = record {
  children = (record { chunk = atom (codes "hdlr") (Rattle.std.specs.Prelude.replicate 8 0 ++ (codes "mdta" ++ Rattle.std.specs.Prelude.replicate 13 0)); spelled = refl; is = refl; four = refl; no_keys = refl; no_items = refl }, ((omega arith, tt), (tt, tt)));
  lawful = refl;
}

-- ---- what is made is read again

-- an atom whose body is the spelling of a table
pub meta_again : (c : Chunk) (t : KeyTable) → c.id ≡ codes "meta" → c.body ≡ table_bytes t → Well t → SmallBody c → (is_meta c ≡ true) × (table_in c ≡ t)
meta_again c t id body w small =
    let read : key_table c.body ≡ Some t = ap key_table body ∙ well_again t w (omega (arith, small, ap length body)) in
    (rw (id, read) refl, ap table_or read)

pub edited_meta : (e : List (Item (List ℕ))) (c : Chunk) → is_meta c ≡ true → IsBytes c.body → KeyItems e → SmallBody (edit_meta e c) → (is_meta (edit_meta e c) ≡ true) × (table_in (edit_meta e c) ≡ with_keys e (table_in c))
edited_meta e c m b k small =
    meta_again (edit_meta e c) (with_keys e (table_in c)) (same_true c.id (codes "meta") (and_parts (is c (codes "meta")) (is_some (key_table c.body)) m).0) refl (keys_well e (table_in c) k (table_well c m b)) small

pub fresh_meta : (e : List (Item (List ℕ))) → KeyItems e → SmallBody (atom (codes "meta") (table_bytes (with_keys e new_table)))
    → (is_meta (atom (codes "meta") (table_bytes (with_keys e new_table))) ≡ true) × (table_in (atom (codes "meta") (table_bytes (with_keys e new_table))) ≡ with_keys e new_table)
fresh_meta e k small = meta_again (atom (codes "meta") (table_bytes (with_keys e new_table))) (with_keys e new_table) refl refl (keys_well e new_table k new_well) small

-- ---- the values of keys

apart_of : (a b : List ℕ) → bytes_eq a b ≡ false → a ≢ b
apart_of a b e same = let yes : bytes_eq a b ≡ true = rw same (same_refl b) in absurd cc

one_value : (raw : Option (List ℕ)) → elim raw [ None ↦ [] | Some r ↦ r ∷ [] ] ≡ listed raw
one_value None = refl
one_value (Some r) = refl

pub keys_values : (e : List (Item (List ℕ))) (t : KeyTable) (name : List ℕ) → KeyItems e → Well t → key_values name (with_keys e t) ≡ updated e name (key_values name t)
keys_values [] t name k w = refl
keys_values (i ∷ e) t name k w =
    keys_values e (with_key i.name i.value t) name k.1 (well_set i.name i.value t k.0 w) ∙ ap (updated e name) (go (bytes_eq name i.name) refl)
  where
    go : (b : Bool) → bytes_eq name i.name ≡ b → key_values name (with_key i.name i.value t) ≡ cond b (listed i.value) (key_values name t)
    go true s = ap (λ (x : List ℕ). key_values x (with_key i.name i.value t)) (same_true name i.name s) ∙ key_is_set i.name i.value t w ∙ one_value i.value
    go false s = others_stay name i.name i.value t (apart_of name i.name s) w

-- each value of a key has its type and its locale
abbrev pub Long : List ℕ → Type 0
Long v = 8 ≤ length v

well_items : (cs : List KeyChild) → AllByRecursion WellChild cs → AllByRecursion WellItem (items_among cs)
well_items [] w = tt
well_items (Other bytes ∷ cs) w = well_items cs w.1
well_items (Keys head es ∷ cs) w = well_items cs w.1
well_items (Items is ∷ cs) w = w.0

well_values : (n : ℕ) (is : List KeyItem) → AllByRecursion WellItem is → AllByRecursion Long (values_at n is)
well_values n [] w = tt
well_values n (i ∷ is) w = go (i.index == n) (one i.values w.0) (well_values n is w.1)
  where
    one : (vs : List (List ℕ)) → Rattle.qt_keys.proofs.Again.AreValues vs → AllByRecursion Long vs
    one [] a = absurd a
    one (v ∷ vs) a = (a.0, a.1)

    go : (t : Bool) → AllByRecursion Long i.values → AllByRecursion Long (values_at n is) → AllByRecursion Long (cond t i.values (values_at n is))
    go true a b = a
    go false a b = b

pub values_long : (name : List ℕ) (t : KeyTable) → Well t → AllByRecursion Long (key_values name t)
values_long name t w = well_values (index_of name (entries_of t)) (items_of t) (well_items t.children w.children)

-- where nothing is set there is nothing
pub nothing_set : (e : List (Item (List ℕ))) (name : List ℕ) → sets_some e ≡ false → updated e name [] ≡ []
nothing_set [] name n = refl
nothing_set (i ∷ e) name n = go i.value n (nothing_set e name)
  where
    go : (v : Option (List ℕ)) → elim v [ None ↦ sets_some e | Some r ↦ true ] ≡ false → (sets_some e ≡ false → updated e name [] ≡ []) → updated e name (cond (bytes_eq name i.name) (listed v) []) ≡ []
    go None m again = none (bytes_eq name i.name)
      where
        none : (b : Bool) → updated e name (cond b [] []) ≡ []
        none true = again m
        none false = again m
    go (Some r) m again = absurd cc

-- the table of the first
abbrev pub table_among : List Chunk → KeyTable
table_among [] = no_table
table_among (c ∷ cs) = table_in c

pub first_table_is : (cs : List Chunk) → first_table cs ≡ table_among (first_of is_meta cs)
first_table_is [] = refl
first_table_is (c ∷ cs) = go (is_meta c) (first_table_is cs)
  where
    go : (t : Bool) → first_table cs ≡ table_among (first_of is_meta cs) → cond t (table_in c) (first_table cs) ≡ table_among (cond t (c ∷ []) (first_of is_meta cs))
    go true e = refl
    go false e = e

-- ---- bare tables

-- each entry that is a field stays one
field_more : (name : List ℕ) (es : List KeyEntry) (n : ℕ) → is_field_at es n ≡ true → is_field_at (with_entry name es) n ≡ true
field_more name [] n h = absurd cc
field_more name (e ∷ es) n h = go (names name e) h (field_more name es (n - 1))
  where
    later : (u : Bool) → cond u (is_field e) (is_field_at es (n - 1)) ≡ true → (is_field_at es (n - 1) ≡ true → is_field_at (with_entry name es) (n - 1) ≡ true) → cond u (is_field e) (is_field_at (with_entry name es) (n - 1)) ≡ true
    later true h again = h
    later false h again = again h

    go : (t : Bool) → is_field_at (e ∷ es) n ≡ true → (is_field_at es (n - 1) ≡ true → is_field_at (with_entry name es) (n - 1) ≡ true) → is_field_at (cond t (e ∷ es) (e ∷ with_entry name es)) n ≡ true
    go true h again = h
    go false h again = later (n == 1) h again

-- the same entries, or more of them
abbrev More : List KeyEntry → List KeyEntry → Type 0
More es fs = (n : ℕ) → is_field_at es n ≡ true → is_field_at fs n ≡ true

set_more : (name : List ℕ) (k : ℕ) (raw : List ℕ) (cs : List KeyChild) → More (entries_among cs) (entries_among (map (child_set name k raw) cs))
set_more name k raw [] n h = h
set_more name k raw (Other bytes ∷ cs) n h = set_more name k raw cs n h
set_more name k raw (Keys head es ∷ cs) n h = field_more name es n h
set_more name k raw (Items is ∷ cs) n h = set_more name k raw cs n h

left_same : (k : ℕ) (cs : List KeyChild) → entries_among (map (child_without k) cs) ≡ entries_among cs
left_same k [] = refl
left_same k (Other bytes ∷ cs) = left_same k cs
left_same k (Keys head es ∷ cs) = refl
left_same k (Items is ∷ cs) = left_same k cs

bare_same : (es : List KeyEntry) (cs : List KeyChild) → entries_among (map (bare_child es) cs) ≡ entries_among cs
bare_same es [] = refl
bare_same es (Other bytes ∷ cs) = bare_same es cs
bare_same es (Keys head fs ∷ cs) = refl
bare_same es (Items is ∷ cs) = bare_same es cs

set_same : (name : List ℕ) (k : ℕ) (raw : List ℕ) (es : List KeyEntry) (cs : List KeyChild) → entries_among (map (child_set name k raw) (map (bare_child es) cs)) ≡ entries_among (map (child_set name k raw) cs)
set_same name k raw es [] = refl
set_same name k raw es (Other bytes ∷ cs) = set_same name k raw es cs
set_same name k raw es (Keys head fs ∷ cs) = refl
set_same name k raw es (Items is ∷ cs) = set_same name k raw es cs

bare_twice : (es fs : List KeyEntry) → More es fs → (i : KeyItem) → bare_item fs (bare_item es i) ≡ bare_item fs i
bare_twice es fs m i = go (is_field_at es i.index) refl
  where
    go : (t : Bool) → is_field_at es i.index ≡ t → bare_item fs (cond t (record i { values = [] }) i) ≡ bare_item fs i
    go true e = let f = m i.index e in rw f refl
    go false e = refl

bare_index : (es : List KeyEntry) (i : KeyItem) → (bare_item es i).index ≡ i.index
bare_index es i = go (is_field_at es i.index)
  where
    go : (t : Bool) → (cond t (record i { values = [] }) i).index ≡ i.index
    go true = refl
    go false = refl

items_twice : (es fs : List KeyEntry) → More es fs → (is : List KeyItem) → map (bare_item fs) (map (bare_item es) is) ≡ map (bare_item fs) is
items_twice es fs m [] = refl
items_twice es fs m (i ∷ is) = rw (bare_twice es fs m i, items_twice es fs m is) refl

set_twice : (es fs : List KeyEntry) → More es fs → (k : ℕ) (raw : List ℕ) (is : List KeyItem) → map (bare_item fs) (with_item k raw (map (bare_item es) is)) ≡ map (bare_item fs) (with_item k raw is)
set_twice es fs m k raw [] = refl
set_twice es fs m k raw (i ∷ is) =
    ap (λ (n : ℕ). map (bare_item fs) (cond (n == k) (item_of k raw ∷ map (bare_item es) is) (bare_item es i ∷ with_item k raw (map (bare_item es) is)))) (bare_index es i) ∙ go (i.index == k) (set_twice es fs m k raw is)
  where
    go : (t : Bool) → map (bare_item fs) (with_item k raw (map (bare_item es) is)) ≡ map (bare_item fs) (with_item k raw is)
        → map (bare_item fs) (cond t (item_of k raw ∷ map (bare_item es) is) (bare_item es i ∷ with_item k raw (map (bare_item es) is))) ≡ map (bare_item fs) (cond t (item_of k raw ∷ is) (i ∷ with_item k raw is))
    go true again = ap (λ (xs : List KeyItem). bare_item fs (item_of k raw) ∷ xs) (items_twice es fs m is)
    go false again = rw (bare_twice es fs m i, again) refl

left_twice : (es fs : List KeyEntry) → More es fs → (k : ℕ) (is : List KeyItem) → map (bare_item fs) (without_item k (map (bare_item es) is)) ≡ map (bare_item fs) (without_item k is)
left_twice es fs m k [] = refl
left_twice es fs m k (i ∷ is) =
    ap (λ (n : ℕ). map (bare_item fs) (cond (n == k) (map (bare_item es) is) (bare_item es i ∷ without_item k (map (bare_item es) is)))) (bare_index es i) ∙ go (i.index == k) (left_twice es fs m k is)
  where
    go : (t : Bool) → map (bare_item fs) (without_item k (map (bare_item es) is)) ≡ map (bare_item fs) (without_item k is)
        → map (bare_item fs) (cond t (map (bare_item es) is) (bare_item es i ∷ without_item k (map (bare_item es) is))) ≡ map (bare_item fs) (cond t is (i ∷ without_item k is))
    go true again = items_twice es fs m is
    go false again = rw (bare_twice es fs m i, again) refl

set_child : (es fs : List KeyEntry) → More es fs → (name : List ℕ) (k : ℕ) (raw : List ℕ) (cs : List KeyChild) → map (bare_child fs) (map (child_set name k raw) (map (bare_child es) cs)) ≡ map (bare_child fs) (map (child_set name k raw) cs)
set_child es fs m name k raw [] = refl
set_child es fs m name k raw (Other bytes ∷ cs) = ap (λ (x : List KeyChild). Other bytes ∷ x) (set_child es fs m name k raw cs)
set_child es fs m name k raw (Keys head gs ∷ cs) = ap (λ (x : List KeyChild). Keys head (with_entry name gs) ∷ x) (set_child es fs m name k raw cs)
set_child es fs m name k raw (Items is ∷ cs) = rw (set_twice es fs m k raw is, set_child es fs m name k raw cs) refl

left_child : (es fs : List KeyEntry) → More es fs → (k : ℕ) (cs : List KeyChild) → map (bare_child fs) (map (child_without k) (map (bare_child es) cs)) ≡ map (bare_child fs) (map (child_without k) cs)
left_child es fs m k [] = refl
left_child es fs m k (Other bytes ∷ cs) = ap (λ (x : List KeyChild). Other bytes ∷ x) (left_child es fs m k cs)
left_child es fs m k (Keys head gs ∷ cs) = ap (λ (x : List KeyChild). Keys head gs ∷ x) (left_child es fs m k cs)
left_child es fs m k (Items is ∷ cs) = rw (left_twice es fs m k is, left_child es fs m k cs) refl

same_child : (es : List KeyEntry) (cs : List KeyChild) → map (bare_child es) (map (bare_child es) cs) ≡ map (bare_child es) cs
same_child es [] = refl
same_child es (Other bytes ∷ cs) = ap (λ (x : List KeyChild). Other bytes ∷ x) (same_child es cs)
same_child es (Keys head gs ∷ cs) = ap (λ (x : List KeyChild). Keys head gs ∷ x) (same_child es cs)
same_child es (Items is ∷ cs) = rw (items_twice es es (λ n h. h) is, same_child es cs) refl

abbrev bared : List KeyEntry → List KeyChild → KeyTable
bared es cs = record { children = map (bare_child es) cs }

bare_bare : (t : KeyTable) → bare (bare t) ≡ bare t
bare_bare t =
    let es = entries_of t in
    ap (λ (fs : List KeyEntry). bared fs (map (bare_child es) t.children)) (bare_same es t.children) ∙ ap (λ (cs : List KeyChild). record { children = cs }) (same_child es t.children)

bare_key : (name : List ℕ) (raw : Option (List ℕ)) (t : KeyTable) → bare (with_key name raw (bare t)) ≡ bare (with_key name raw t)
bare_key name None t =
    let es = entries_of t in
    let cs = t.children in
    let k = index_of name es in
    ap (λ (fs : List KeyEntry). bare (record { children = map (child_without (index_of name fs)) (map (bare_child es) cs) })) (bare_same es cs)
    ∙ ap (λ (fs : List KeyEntry). bared fs (map (child_without k) (map (bare_child es) cs))) (left_same k (map (bare_child es) cs) ∙ bare_same es cs ∙ sym (left_same k cs))
    ∙ ap (λ (x : List KeyChild). record { children = x }) (left_child es (entries_among (map (child_without k) cs)) (λ n h. ap (λ (fs : List KeyEntry). is_field_at fs n) (left_same k cs) ∙ h) k cs)
bare_key name (Some raw) t =
    let es = entries_of t in
    let cs = t.children in
    let k = index_of name es in
    ap (λ (fs : List KeyEntry). bare (record { children = map (child_set name (index_of name fs) raw) (map (bare_child es) cs) })) (bare_same es cs)
    ∙ ap (λ (fs : List KeyEntry). bared fs (map (child_set name k raw) (map (bare_child es) cs))) (set_same name k raw es cs)
    ∙ ap (λ (x : List KeyChild). record { children = x }) (set_child es (entries_among (map (child_set name k raw) cs)) (set_more name k raw cs) name k raw cs)

-- what an edit makes of a table is bare as what it makes of the bare table
pub bare_keys : (e : List (Item (List ℕ))) (t : KeyTable) → bare (with_keys e (bare t)) ≡ bare (with_keys e t)
bare_keys [] t = bare_bare t
bare_keys (i ∷ e) t =
    sym (bare_keys e (with_key i.name i.value (bare t))) ∙ ap (λ (u : KeyTable). bare (with_keys e u)) (bare_key i.name i.value t) ∙ bare_keys e (with_key i.name i.value t)
