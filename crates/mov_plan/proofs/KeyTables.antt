-- A key table by its entries and its items: what it is with its own, and where a key is set or removed.
use Rattle.std.proofs.Common.{◌≡◌, ◌∙◌, ℕ, ◌+◌, ◌<◌, ◌≤◌, ◌^◌, Bool, cond, List, [], ◌∷◌, length, map, drop, get_or, refl, sym, ap, subst, arith, Option, Some, None}
use Rattle.std.specs.Prelude.{count_by}
use Rattle.std.specs.List.{AllByRecursion}
use Rattle.std.proofs.lemmas.List.{at_drop_all, at_drop_more}
use Rattle.std.proofs.lemmas.List.Sums.{sum_by-cons}
use Rattle.me_bytes.specs.Bytes.{IsBytes}
use Rattle.mov_model.specs.Keys.{with_keys}
use Rattle.mov_model.proofs.Fits.{KeyItems}
use Rattle.mov_model.proofs.Keys.{keys_well}
use Rattle.qt_keys.proofs.Again.{Well, well_again}
use Rattle.qt_keys.proofs.AreBytes.{bytes_set}
use Rattle.qt_keys.proofs.AreBytes as bytes
use Rattle.qt_keys.proofs.Found.{read_well}
use Rattle.qt_keys.proofs.Keyed.{Lawful, lawful_parts}
use Rattle.qt_keys.specs.Read.{IsRead}
use Rattle.qt_keys.specs.Set.{child_set, child_without, index_of, with_entry, with_item, with_key, without_item}
use Rattle.qt_keys.specs.Table.{entries_among, entries_of, is_items, is_keys, items_among, items_of, table_bytes}
use Rattle.qt_keys.specs.declared.table.KeyChild.{KeyChild}
use Rattle.qt_keys.specs.declared.table.KeyChild.TheVariants.{Items, Keys, Other}
use Rattle.qt_keys.specs.declared.table.KeyEntry.{KeyEntry}
use Rattle.qt_keys.specs.declared.table.KeyItem.{KeyItem}
use Rattle.qt_keys.specs.declared.table.KeyTable.{KeyTable}
use Rattle.mov_plan.specs.Keyed.{AreBytes, CanPut, changes_of, child_with, entries_put, items_put, table_with}
use Rattle.mov_plan.specs.declared.keys.KeyChange.{KeyChange}

-- ---- a table with its own entries and items

-- how many of a sort are in children, by the first
count_first : (p : KeyChild → Bool) (c : KeyChild) (cs : List KeyChild) → count_by p (c ∷ cs) ≡ cond (p c) 1 0 + count_by p cs
count_first p c cs = sum_by-cons (λ (x : KeyChild). cond (p x) 1 0) c cs

-- where no `keys` is among them, any entries do
no_keys : (es fs : List KeyEntry) (is : List KeyItem) (cs : List KeyChild) → count_by is_keys cs ≤ 0 → map (child_with es is) cs ≡ map (child_with fs is) cs
no_keys es fs is [] h = refl
no_keys es fs is (Other bytes ∷ cs) h = ap (λ (xs : List KeyChild). Other bytes ∷ xs) (no_keys es fs is cs (omega (arith, h, count_first is_keys (Other bytes) cs)))
no_keys es fs is (Keys head gs ∷ cs) h = absurd (omega (arith, h, count_first is_keys (Keys head gs) cs))
no_keys es fs is (Items js ∷ cs) h = ap (λ (xs : List KeyChild). Items is ∷ xs) (no_keys es fs is cs (omega (arith, h, count_first is_keys (Items js) cs)))

-- and where no `ilst` is, any items
no_items : (es : List KeyEntry) (is js : List KeyItem) (cs : List KeyChild) → count_by is_items cs ≤ 0 → map (child_with es is) cs ≡ map (child_with es js) cs
no_items es is js [] h = refl
no_items es is js (Other bytes ∷ cs) h = ap (λ (xs : List KeyChild). Other bytes ∷ xs) (no_items es is js cs (omega (arith, h, count_first is_items (Other bytes) cs)))
no_items es is js (Keys head gs ∷ cs) h = ap (λ (xs : List KeyChild). Keys head es ∷ xs) (no_items es is js cs (omega (arith, h, count_first is_items (Keys head gs) cs)))
no_items es is js (Items ks ∷ cs) h = absurd (omega (arith, h, count_first is_items (Items ks) cs))

same_children : (cs : List KeyChild) → count_by is_keys cs ≤ 1 → count_by is_items cs ≤ 1 → map (child_with (entries_among cs) (items_among cs)) cs ≡ cs
same_children [] k i = refl
same_children (Other bytes ∷ cs) k i =
    ap (λ (xs : List KeyChild). Other bytes ∷ xs) (same_children cs (omega (arith, k, count_first is_keys (Other bytes) cs)) (omega (arith, i, count_first is_items (Other bytes) cs)))
same_children (Keys head es ∷ cs) k i =
    let none : count_by is_keys cs ≤ 0 = omega (arith, k, count_first is_keys (Keys head es) cs) in
    ap (λ (xs : List KeyChild). Keys head es ∷ xs)
    (no_keys es (entries_among cs) (items_among cs) cs none ∙ same_children cs (omega (arith, none)) (omega (arith, i, count_first is_items (Keys head es) cs)))
same_children (Items is ∷ cs) k i =
    let none : count_by is_items cs ≤ 0 = omega (arith, i, count_first is_items (Items is) cs) in
    ap (λ (xs : List KeyChild). Items is ∷ xs)
    (no_items (entries_among cs) is (items_among cs) cs none ∙ same_children cs (omega (arith, k, count_first is_keys (Items is) cs)) (omega (arith, none)))

-- what is lawful of a table that is read
pub lawful_of : (t : KeyTable) → IsRead t → Lawful t.children
lawful_of t r = lawful_parts t.children (read_well (table_bytes t) t r.bytes r.read).lawful

-- a table that is read has one `keys`
pub one_keys : (t : KeyTable) → IsRead t → count_by is_keys t.children ≡ 1
one_keys t r = (lawful_of t r).one_keys

pub same_table : (t : KeyTable) → IsRead t → table_with (entries_of t) (items_of t) t ≡ t
same_table t r =
    let l = lawful_of t r in
    ap (λ (cs : List KeyChild). record { children = cs }) (same_children t.children (omega (arith, l.one_keys)) (omega (arith, l.one_items)))

-- by what is held of it
pub same_held : (t : KeyTable) (es : List KeyEntry) (is : List KeyItem) → IsRead t → es ≡ entries_of t → is ≡ items_of t → table_with es is t ≡ t
same_held t es is r e i = ap (λ (fs : List KeyEntry). table_with fs is t) e ∙ ap (λ (js : List KeyItem). table_with (entries_of t) js t) i ∙ same_table t r

-- ---- a key that is set or removed

entries_with : (es : List KeyEntry) (is : List KeyItem) (cs : List KeyChild) → 1 ≤ count_by is_keys cs → entries_among (map (child_with es is) cs) ≡ es
entries_with es is [] h = absurd (omega (arith, h))
entries_with es is (Other bytes ∷ cs) h = entries_with es is cs (omega (arith, h, count_first is_keys (Other bytes) cs))
entries_with es is (Keys head fs ∷ cs) h = refl
entries_with es is (Items js ∷ cs) h = entries_with es is cs (omega (arith, h, count_first is_keys (Items js) cs))

set_with : (name : List ℕ) (index : ℕ) (raw : List ℕ) (es : List KeyEntry) (is : List KeyItem) (cs : List KeyChild) → map (child_set name index raw) (map (child_with es is) cs) ≡ map (child_with (with_entry name es) (with_item index raw is)) cs
set_with name index raw es is [] = refl
set_with name index raw es is (Other bytes ∷ cs) = ap (λ (xs : List KeyChild). Other bytes ∷ xs) (set_with name index raw es is cs)
set_with name index raw es is (Keys head fs ∷ cs) = ap (λ (xs : List KeyChild). Keys head (with_entry name es) ∷ xs) (set_with name index raw es is cs)
set_with name index raw es is (Items js ∷ cs) = ap (λ (xs : List KeyChild). Items (with_item index raw is) ∷ xs) (set_with name index raw es is cs)

left_with : (index : ℕ) (es : List KeyEntry) (is : List KeyItem) (cs : List KeyChild) → map (child_without index) (map (child_with es is) cs) ≡ map (child_with es (without_item index is)) cs
left_with index es is [] = refl
left_with index es is (Other bytes ∷ cs) = ap (λ (xs : List KeyChild). Other bytes ∷ xs) (left_with index es is cs)
left_with index es is (Keys head fs ∷ cs) = ap (λ (xs : List KeyChild). Keys head es ∷ xs) (left_with index es is cs)
left_with index es is (Items js ∷ cs) = ap (λ (xs : List KeyChild). Items (without_item index is) ∷ xs) (left_with index es is cs)

pub key_put : (name : List ℕ) (value : Option (List ℕ)) (es : List KeyEntry) (is : List KeyItem) (t : KeyTable) → count_by is_keys t.children ≡ 1
    → with_key name value (table_with es is t) ≡ table_with (entries_put name value es) (items_put name value es is) t
key_put name None es is t one =
    let cs = t.children in
    ap (λ (fs : List KeyEntry). record { children = map (child_without (index_of name fs)) (map (child_with es is) cs) }) (entries_with es is cs (omega (arith, one)))
    ∙ ap (λ (xs : List KeyChild). record { children = xs }) (left_with (index_of name es) es is cs)
key_put name (Some raw) es is t one =
    let cs = t.children in
    ap (λ (fs : List KeyEntry). record { children = map (child_set name (index_of name fs) raw) (map (child_with es is) cs) }) (entries_with es is cs (omega (arith, one)))
    ∙ ap (λ (xs : List KeyChild). record { children = xs }) (set_with name (index_of name es) raw es is cs)

-- ---- changes one after the other

-- the table after one more change, of which these are the entries and the items
pub put_is : (c : KeyChange) (es fs : List KeyEntry) (is js : List KeyItem) (t : KeyTable) → count_by is_keys t.children ≡ 1 → fs ≡ entries_put c.name c.value es → js ≡ items_put c.name c.value es is
    → table_with fs js t ≡ with_key c.name c.value (table_with es is t)
put_is c es fs is js t one entries items =
    ap (λ (xs : List KeyEntry). table_with xs js t) entries ∙ ap (λ (ys : List KeyItem). table_with (entries_put c.name c.value es) ys t) items ∙ sym (key_put c.name c.value es is t one)

pub put_more : (xs : List KeyChange) (k : ℕ) (c : KeyChange) (t u whole : KeyTable) → k < length xs → c ≡ get_or xs k c → u ≡ with_key c.name c.value t
    → with_keys (changes_of (drop k xs)) t ≡ whole → with_keys (changes_of (drop (k + 1) xs)) u ≡ whole
put_more xs k c t u whole inside is step so_far =
    ap (with_keys (changes_of (drop (k + 1) xs))) step
    ∙ sym (at_drop_more (λ (ys : List KeyChange). with_keys (changes_of ys) t) xs k c inside ∙ ap (λ (d : KeyChange). with_keys (changes_of (d ∷ drop (k + 1) xs)) t) (sym is)) ∙ so_far

pub put_end : (xs : List KeyChange) (k : ℕ) (t whole : KeyTable) → length xs ≤ k → with_keys (changes_of (drop k xs)) t ≡ whole → t ≡ whole
put_end xs k t whole past so_far = sym (at_drop_all (λ (ys : List KeyChange). with_keys (changes_of ys) t) xs k past) ∙ so_far

-- ---- what is made are bytes, and is read again

some_bytes : (value : Option (List ℕ)) → ((raw : List ℕ) → value ≡ Some raw → IsBytes raw) → bytes.AreBytes value
some_bytes None h = tt
some_bytes (Some raw) h = h raw refl

pub bytes_more : (c : KeyChange) (t u : KeyTable) → AreBytes c → u ≡ with_key c.name c.value t → IsBytes (table_bytes t) → IsBytes (table_bytes u)
bytes_more c t u are step h = subst (λ (v : KeyTable). IsBytes (table_bytes v)) (sym step) (bytes_set c.name c.value t are.0 (some_bytes c.value are.1) h)

pub can_put : (xs : List KeyChange) → AllByRecursion CanPut xs → KeyItems (changes_of xs)
can_put [] h = tt
can_put (x ∷ xs) h = (h.0, can_put xs h.1)

-- what is made of a table that is read
pub read_again : (xs : List KeyChange) (t u : KeyTable) → IsRead t → AllByRecursion CanPut xs → u ≡ with_keys (changes_of xs) t → IsBytes (table_bytes u) → length (table_bytes u) ≤ 2 ^ 24 → IsRead u
read_again xs t u r can made bytes small =
    let w : Well u = subst Well (sym made) (keys_well (changes_of xs) t (can_put xs can) (read_well (table_bytes t) t r.bytes r.read)) in
    record { bytes = bytes; read = well_again u w small }
