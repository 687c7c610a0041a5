-- A key table with a key set or removed is well, and has this key's value and those of the others.
use Rattle.std.proofs.Common.{◌≡◌, ◌≢◌, ℕ, suc, ◌+◌, ◌<◌, ◌≤◌, ◌^◌, Bool, true, false, leb, cond, List, [], ◌∷◌, ◌++◌, length, map, refl, sym, ap, subst, ◌∙◌, arith, Option, Some, None, Result, Ok, Err, eq-eqb}
use Rattle.std.specs.Prelude.{IfOk, count_by, nat_eq, not, ◌&&◌, ◌||◌, ◌==◌}
use Rattle.std.specs.List.{AllByRecursion, flat_map, list_all, list_any}
use Rattle.std.specs.Str.{bytes_eq}
use Rattle.std.proofs.lemmas.Bool.{and_parts, eqb-true, le-leb, leb-true}
use Rattle.std.proofs.lemmas.List.Sums.{sum_by-cons}
use Rattle.container_model.proofs.Items.{same_true, same_refl}
use Rattle.container_model.proofs.Tests.{neither, none_of}
use Rattle.qt_keys.specs.Set.{IsKeyValue, child_set, child_without, index_of, item_of, key_values, names, new_entry, values_at, with_entry, with_item, with_key, without_item}
use Rattle.qt_keys.specs.Table.{all_differ, entries_among, entries_of, handles_keys, has_each_once, index_in, indexes_fit, is_handler, is_items, is_key, is_keys, is_lawful, is_within, items_among, items_of, key_names, names_differ, table_bytes}
use Rattle.qt_keys.specs.declared.table.KeyChild.{KeyChild}
use Rattle.qt_keys.specs.declared.table.KeyChild.TheVariants.{Other, Keys, Items}
use Rattle.qt_keys.specs.declared.table.KeyEntry.{KeyEntry}
use Rattle.qt_keys.specs.declared.table.KeyItem.{KeyItem}
use Rattle.qt_keys.specs.declared.table.KeyTable.{KeyTable}
use Rattle.me_bytes.specs.Bytes.{IsBytes}
use Rattle.qt_keys.specs.Read.{IsRead}
use Rattle.qt_keys.proofs.Again.{Well, WellChild, WellEntry, WellItem, well_again}
use Rattle.qt_keys.proofs.Found.{read_well}

-- ---- a change that keeps the sort of each child

record SameSort (h : KeyChild → KeyChild) : Type 0 where
  handler : (c : KeyChild) → is_handler (h c) ≡ is_handler c
  keys : (c : KeyChild) → is_keys (h c) ≡ is_keys c
  items : (c : KeyChild) → is_items (h c) ≡ is_items c
  handles : (c : KeyChild) → handles_keys (h c) ≡ handles_keys c

count_same : (p : KeyChild → Bool) (h : KeyChild → KeyChild) → ((c : KeyChild) → p (h c) ≡ p c) → (cs : List KeyChild) → count_by p (map h cs) ≡ count_by p cs
count_same p h same [] = refl
count_same p h same (c ∷ cs) =
    sum_by-cons (λ (x : KeyChild). cond (p x) 1 0) (h c) (map h cs) ∙ ap (λ (t : Bool). cond t 1 0 + count_by p (map h cs)) (same c)
    ∙ ap (λ (n : ℕ). cond (p c) 1 0 + n) (count_same p h same cs) ∙ sym (sum_by-cons (λ (x : KeyChild). cond (p x) 1 0) c cs)

all_same : (p : KeyChild → Bool) (h : KeyChild → KeyChild) → ((c : KeyChild) → p (h c) ≡ p c) → (cs : List KeyChild) → list_all p (map h cs) ≡ list_all p cs
all_same p h same [] = refl
all_same p h same (c ∷ cs) = rw (same c, all_same p h same cs) refl

sorts_stay : (h : KeyChild → KeyChild) → SameSort h → (cs : List KeyChild) → (has_each_once (map h cs) && list_all handles_keys (map h cs)) ≡ (has_each_once cs && list_all handles_keys cs)
sorts_stay h s cs = rw (count_same is_handler h s.handler cs, count_same is_keys h s.keys cs, count_same is_items h s.items cs, all_same handles_keys h s.handles cs) refl

-- one of a sort is there
some_count : (p : KeyChild → Bool) (c : KeyChild) (cs : List KeyChild) → p c ≡ false → count_by p (c ∷ cs) ≡ 1 → count_by p cs ≡ 1
some_count p c cs none e =
    let f : cond {A = ℕ} false 1 0 + count_by p cs ≡ 1 = sym (ap (λ (t : Bool). cond t 1 0 + count_by p cs) none) ∙ sym (sum_by-cons (λ (x : KeyChild). cond (p x) 1 0) c cs) ∙ e in
    omega (arith, f)

entries_set : (name : List ℕ) (index : ℕ) (raw : List ℕ) (cs : List KeyChild) → count_by is_keys cs ≡ 1 → entries_among (map (child_set name index raw) cs) ≡ with_entry name (entries_among cs)
entries_set name index raw [] e = absurd (omega (arith, e))
entries_set name index raw (Other bytes ∷ cs) e = entries_set name index raw cs (some_count is_keys (Other bytes) cs refl e)
entries_set name index raw (Keys head es ∷ cs) e = refl
entries_set name index raw (Items is ∷ cs) e = entries_set name index raw cs (some_count is_keys (Items is) cs refl e)

items_set : (name : List ℕ) (index : ℕ) (raw : List ℕ) (cs : List KeyChild) → count_by is_items cs ≡ 1 → items_among (map (child_set name index raw) cs) ≡ with_item index raw (items_among cs)
items_set name index raw [] e = absurd (omega (arith, e))
items_set name index raw (Other bytes ∷ cs) e = items_set name index raw cs (some_count is_items (Other bytes) cs refl e)
items_set name index raw (Keys head es ∷ cs) e = items_set name index raw cs (some_count is_items (Keys head es) cs refl e)
items_set name index raw (Items is ∷ cs) e = refl

entries_left : (index : ℕ) (cs : List KeyChild) → entries_among (map (child_without index) cs) ≡ entries_among cs
entries_left index [] = refl
entries_left index (Other bytes ∷ cs) = entries_left index cs
entries_left index (Keys head es ∷ cs) = refl
entries_left index (Items is ∷ cs) = entries_left index cs

items_left : (index : ℕ) (cs : List KeyChild) → items_among (map (child_without index) cs) ≡ without_item index (items_among cs)
items_left index [] = refl
items_left index (Other bytes ∷ cs) = items_left index cs
items_left index (Keys head es ∷ cs) = items_left index cs
items_left index (Items is ∷ cs) = refl

set_sorts : (name : List ℕ) (index : ℕ) (raw : List ℕ) → SameSort (child_set name index raw)
set_sorts name index raw = record { handler = handler; keys = keys; items = items; handles = handles }
  where
    handler : (c : KeyChild) → is_handler (child_set name index raw c) ≡ is_handler c
    handler (Other bytes) = refl
    handler (Keys head es) = refl
    handler (Items is) = refl

    keys : (c : KeyChild) → is_keys (child_set name index raw c) ≡ is_keys c
    keys (Other bytes) = refl
    keys (Keys head es) = refl
    keys (Items is) = refl

    items : (c : KeyChild) → is_items (child_set name index raw c) ≡ is_items c
    items (Other bytes) = refl
    items (Keys head es) = refl
    items (Items is) = refl

    handles : (c : KeyChild) → handles_keys (child_set name index raw c) ≡ handles_keys c
    handles (Other bytes) = refl
    handles (Keys head es) = refl
    handles (Items is) = refl

left_sorts : (index : ℕ) → SameSort (child_without index)
left_sorts index = record { handler = handler; keys = keys; items = items; handles = handles }
  where
    handler : (c : KeyChild) → is_handler (child_without index c) ≡ is_handler c
    handler (Other bytes) = refl
    handler (Keys head es) = refl
    handler (Items is) = refl

    keys : (c : KeyChild) → is_keys (child_without index c) ≡ is_keys c
    keys (Other bytes) = refl
    keys (Keys head es) = refl
    keys (Items is) = refl

    items : (c : KeyChild) → is_items (child_without index c) ≡ is_items c
    items (Other bytes) = refl
    items (Keys head es) = refl
    items (Items is) = refl

    handles : (c : KeyChild) → handles_keys (child_without index c) ≡ handles_keys c
    handles (Other bytes) = refl
    handles (Keys head es) = refl
    handles (Items is) = refl

-- ---- entries

-- a name among those of keys
abbrev is_named : List ℕ → List KeyEntry → Bool
is_named name es = list_any (bytes_eq name) (flat_map key_names es)

index_low : (name : List ℕ) (es : List KeyEntry) → 1 ≤ index_of name es
index_low name [] = omega arith
index_low name (e ∷ es) = go (names name e) (index_low name es)
  where
    go : (t : Bool) → 1 ≤ index_of name es → 1 ≤ cond t 1 (suc (index_of name es))
    go true le = omega arith
    go false le = omega arith

index_within : (name : List ℕ) (es : List KeyEntry) → index_of name es ≤ length (with_entry name es)
index_within name [] = omega arith
index_within name (e ∷ es) = go (names name e) (index_within name es)
  where
    go : (t : Bool) → index_of name es ≤ length (with_entry name es) → cond t 1 (suc (index_of name es)) ≤ length (cond t (e ∷ es) (e ∷ with_entry name es))
    go true le = omega arith
    go false le = omega arith

entries_more : (name : List ℕ) (es : List KeyEntry) → length es ≤ length (with_entry name es)
entries_more name [] = omega arith
entries_more name (e ∷ es) = go (names name e) (entries_more name es)
  where
    go : (t : Bool) → length es ≤ length (with_entry name es) → suc (length es) ≤ length (cond t (e ∷ es) (e ∷ with_entry name es))
    go true le = omega arith
    go false le = omega arith

entries_well : (name : List ℕ) (es : List KeyEntry) → AllByRecursion WellEntry es → AllByRecursion WellEntry (with_entry name es)
entries_well name [] w = (refl, tt)
entries_well name (e ∷ es) w = go (names name e) (entries_well name es w.1)
  where
    go : (t : Bool) → AllByRecursion WellEntry (with_entry name es) → AllByRecursion WellEntry (cond t (e ∷ es) (e ∷ with_entry name es))
    go true more = w
    go false more = (w.0, more)

-- a name that is another one, and not among the keys
any_more : (x name : List ℕ) (es : List KeyEntry) → bytes_eq x name ≡ false → list_any (bytes_eq x) (flat_map key_names es) ≡ false → list_any (bytes_eq x) (flat_map key_names (with_entry name es)) ≡ false
any_more x name [] other h = ap (λ (t : Bool). t || false) other
any_more x name (e ∷ es) other h = go (names name e) (is_key e) refl h (any_more x name es other)
  where
    go : (t u : Bool) → is_key e ≡ u → list_any (bytes_eq x) (cond u (e.name ∷ []) [] ++ flat_map key_names es) ≡ false → (list_any (bytes_eq x) (flat_map key_names es) ≡ false → list_any (bytes_eq x) (flat_map key_names (with_entry name es)) ≡ false)
        → list_any (bytes_eq x) (flat_map key_names (cond t (e ∷ es) (e ∷ with_entry name es))) ≡ false
    go true u i g more = ap (λ (v : Bool). list_any (bytes_eq x) (cond v (e.name ∷ []) [] ++ flat_map key_names es)) i ∙ g
    go false true i g more =
        let p = neither (bytes_eq x e.name) (list_any (bytes_eq x) (flat_map key_names es)) g in
        ap (λ (v : Bool). list_any (bytes_eq x) (cond v (e.name ∷ []) [] ++ flat_map key_names (with_entry name es))) i ∙ none_of (bytes_eq x e.name) _ p.0 (more p.1)
    go false false i g more = ap (λ (v : Bool). list_any (bytes_eq x) (cond v (e.name ∷ []) [] ++ flat_map key_names (with_entry name es))) i ∙ more g

differ_more : (name : List ℕ) (es : List KeyEntry) → names_differ es ≡ true → names_differ (with_entry name es) ≡ true
differ_more name [] h = refl
differ_more name (e ∷ es) h = go (is_key e) (bytes_eq e.name name) refl refl h (differ_more name es)
  where
    go : (u v : Bool) → is_key e ≡ u → bytes_eq e.name name ≡ v → all_differ bytes_eq (cond u (e.name ∷ []) [] ++ flat_map key_names es) ≡ true → (names_differ es ≡ true → names_differ (with_entry name es) ≡ true)
        → all_differ bytes_eq (flat_map key_names (cond (is_key e && bytes_eq e.name name) (e ∷ es) (e ∷ with_entry name es))) ≡ true
    go true true i j g more = rw (i, j) (rw i g)
    go true false i j g more = rw (i, j) (rw i (apart (list_any (bytes_eq e.name) (flat_map key_names es)) refl g))
      where
        apart : (t : Bool) → list_any (bytes_eq e.name) (flat_map key_names es) ≡ t → (not t && names_differ es) ≡ true → (not (list_any (bytes_eq e.name) (flat_map key_names (with_entry name es))) && names_differ (with_entry name es)) ≡ true
        apart true k f = absurd cc
        apart false k f = rw (any_more e.name name es j k) (more f)
    go false v i j g more = rw i (rw i (more g))

-- ---- items

within_more : (n m index : ℕ) (raw : List ℕ) (is : List KeyItem) → n ≤ m → 1 ≤ index → index ≤ m → list_all (is_within n) is ≡ true → list_all (is_within m) (with_item index raw is) ≡ true
within_more n m index raw [] le low high h = rw (le-leb 1 index low, le-leb index m high) refl
within_more n m index raw (i ∷ is) le low high h =
    let p = and_parts (is_within n i) (list_all (is_within n) is) h in
    let q = and_parts (leb 1 i.index) (leb i.index n) p.0 in
    let here : is_within m i ≡ true = rw (q.0, le-leb i.index m (omega (arith, leb-true i.index n q.1, le))) refl in
    go (i.index == index) here (wider is p.1) (within_more n m index raw is le low high p.1)
  where
    wider : (is : List KeyItem) → list_all (is_within n) is ≡ true → list_all (is_within m) is ≡ true
    wider [] h = refl
    wider (j ∷ js) h =
        let p = and_parts (is_within n j) (list_all (is_within n) js) h in
        let q = and_parts (leb 1 j.index) (leb j.index n) p.0 in
        rw (q.0, le-leb j.index m (omega (arith, leb-true j.index n q.1, le)), wider js p.1) refl

    go : (t : Bool) → is_within m i ≡ true → list_all (is_within m) is ≡ true → list_all (is_within m) (with_item index raw is) ≡ true → list_all (is_within m) (cond t (item_of index raw ∷ is) (i ∷ with_item index raw is)) ≡ true
    go true here rest more = rw (le-leb 1 index low, le-leb index m high, rest) refl
    go false here rest more = rw (here, more) refl

any_item : (x index : ℕ) (raw : List ℕ) (is : List KeyItem) → nat_eq x index ≡ false → list_any (nat_eq x) (map index_in is) ≡ false → list_any (nat_eq x) (map index_in (with_item index raw is)) ≡ false
any_item x index raw [] other h = rw other refl
any_item x index raw (i ∷ is) other h =
    let p = neither (nat_eq x i.index) (list_any (nat_eq x) (map index_in is)) h in
    go (i.index == index) p.0 p.1 (any_item x index raw is other p.1)
  where
    go : (t : Bool) → nat_eq x i.index ≡ false → list_any (nat_eq x) (map index_in is) ≡ false → list_any (nat_eq x) (map index_in (with_item index raw is)) ≡ false → list_any (nat_eq x) (map index_in (cond t (item_of index raw ∷ is) (i ∷ with_item index raw is))) ≡ false
    go true a b more = rw (other, b) refl
    go false a b more = rw (a, more) refl

items_differ : (index : ℕ) (raw : List ℕ) (is : List KeyItem) → all_differ nat_eq (map index_in is) ≡ true → all_differ nat_eq (map index_in (with_item index raw is)) ≡ true
items_differ index raw [] h = refl
items_differ index raw (i ∷ is) h = go (i.index == index) (list_any (nat_eq i.index) (map index_in is)) refl refl h (items_differ index raw is)
  where
    go : (t u : Bool) → (i.index == index) ≡ t → list_any (nat_eq i.index) (map index_in is) ≡ u → (not u && all_differ nat_eq (map index_in is)) ≡ true → (all_differ nat_eq (map index_in is) ≡ true → all_differ nat_eq (map index_in (with_item index raw is)) ≡ true)
        → all_differ nat_eq (map index_in (cond t (item_of index raw ∷ is) (i ∷ with_item index raw is))) ≡ true
    go t true e k g more = absurd cc
    go true false e k g more = let none : list_any (nat_eq index) (map index_in is) ≡ false = subst (λ (n : ℕ). list_any (nat_eq n) (map index_in is) ≡ false) (eqb-true i.index index e) k in rw none g
    go false false e k g more = rw (any_item i.index index raw is e k) (more g)

any_left : (x index : ℕ) (is : List KeyItem) → list_any (nat_eq x) (map index_in is) ≡ false → list_any (nat_eq x) (map index_in (without_item index is)) ≡ false
any_left x index [] h = refl
any_left x index (i ∷ is) h = let p = neither (nat_eq x i.index) (list_any (nat_eq x) (map index_in is)) h in go (i.index == index) p.0 p.1 (any_left x index is p.1)
  where
    go : (t : Bool) → nat_eq x i.index ≡ false → list_any (nat_eq x) (map index_in is) ≡ false → list_any (nat_eq x) (map index_in (without_item index is)) ≡ false → list_any (nat_eq x) (map index_in (cond t is (i ∷ without_item index is))) ≡ false
    go true a b more = b
    go false a b more = rw (a, more) refl

left_differ : (index : ℕ) (is : List KeyItem) → all_differ nat_eq (map index_in is) ≡ true → all_differ nat_eq (map index_in (without_item index is)) ≡ true
left_differ index [] h = refl
left_differ index (i ∷ is) h = go (i.index == index) (list_any (nat_eq i.index) (map index_in is)) refl h (left_differ index is)
  where
    go : (t u : Bool) → list_any (nat_eq i.index) (map index_in is) ≡ u → (not u && all_differ nat_eq (map index_in is)) ≡ true → (all_differ nat_eq (map index_in is) ≡ true → all_differ nat_eq (map index_in (without_item index is)) ≡ true)
        → all_differ nat_eq (map index_in (cond t is (i ∷ without_item index is))) ≡ true
    go t true k g more = absurd cc
    go true false k g more = g
    go false false k g more = rw (any_left i.index index is k) (more g)

left_within : (n index : ℕ) (is : List KeyItem) → list_all (is_within n) is ≡ true → list_all (is_within n) (without_item index is) ≡ true
left_within n index [] h = refl
left_within n index (i ∷ is) h = let p = and_parts (is_within n i) (list_all (is_within n) is) h in go (i.index == index) p.0 p.1 (left_within n index is p.1)
  where
    go : (t : Bool) → is_within n i ≡ true → list_all (is_within n) is ≡ true → list_all (is_within n) (without_item index is) ≡ true → list_all (is_within n) (cond t is (i ∷ without_item index is)) ≡ true
    go true a b more = b
    go false a b more = rw (a, more) refl

items_well : (index : ℕ) (raw : List ℕ) (is : List KeyItem) → 8 ≤ length raw → AllByRecursion WellItem is → AllByRecursion WellItem (with_item index raw is)
items_well index raw [] long w = ((long, tt), tt)
items_well index raw (i ∷ is) long w = go (i.index == index) (items_well index raw is long w.1)
  where
    go : (t : Bool) → AllByRecursion WellItem (with_item index raw is) → AllByRecursion WellItem (cond t (item_of index raw ∷ is) (i ∷ with_item index raw is))
    go true more = ((long, tt), w.1)
    go false more = (w.0, more)

left_well : (index : ℕ) (is : List KeyItem) → AllByRecursion WellItem is → AllByRecursion WellItem (without_item index is)
left_well index [] w = tt
left_well index (i ∷ is) w = go (i.index == index) (left_well index is w.1)
  where
    go : (t : Bool) → AllByRecursion WellItem (without_item index is) → AllByRecursion WellItem (cond t is (i ∷ without_item index is))
    go true more = w.1
    go false more = (w.0, more)

-- ---- the table

set_children : (name : List ℕ) (index : ℕ) (raw : List ℕ) (cs : List KeyChild) → 8 ≤ length raw → AllByRecursion WellChild cs → AllByRecursion WellChild (map (child_set name index raw) cs)
set_children name index raw [] long w = tt
set_children name index raw (Other bytes ∷ cs) long w = (w.0, set_children name index raw cs long w.1)
set_children name index raw (Keys head es ∷ cs) long w = ((w.0.0, entries_well name es w.0.1), set_children name index raw cs long w.1)
set_children name index raw (Items is ∷ cs) long w = (items_well index raw is long w.0, set_children name index raw cs long w.1)

left_children : (index : ℕ) (cs : List KeyChild) → AllByRecursion WellChild cs → AllByRecursion WellChild (map (child_without index) cs)
left_children index [] w = tt
left_children index (Other bytes ∷ cs) w = (w.0, left_children index cs w.1)
left_children index (Keys head es ∷ cs) w = (w.0, left_children index cs w.1)
left_children index (Items is ∷ cs) w = (left_well index is w.0, left_children index cs w.1)

-- what a lawful table is
pub record Lawful (cs : List KeyChild) : Type 0 where
  pub sorts : (has_each_once cs && list_all handles_keys cs) ≡ true
  pub one_keys : count_by is_keys cs ≡ 1
  pub one_items : count_by is_items cs ≡ 1
  pub differ : names_differ (entries_among cs) ≡ true
  pub within : list_all (is_within (length (entries_among cs))) (items_among cs) ≡ true
  pub once : all_differ nat_eq (map index_in (items_among cs)) ≡ true

pub lawful_parts : (cs : List KeyChild) → is_lawful cs ≡ true → Lawful cs
lawful_parts cs h =
    let p = and_parts (has_each_once cs && list_all handles_keys cs) (names_differ (entries_among cs) && indexes_fit (length (entries_among cs)) (items_among cs)) h in
    let once = and_parts (has_each_once cs) (list_all handles_keys cs) p.0 in
    let q = and_parts (count_by is_handler cs == 1) ((count_by is_keys cs == 1) && (count_by is_items cs == 1)) once.0 in
    let r = and_parts (count_by is_keys cs == 1) (count_by is_items cs == 1) q.1 in
    let i = and_parts (names_differ (entries_among cs)) (indexes_fit (length (entries_among cs)) (items_among cs)) p.1 in
    let j = and_parts (list_all (is_within (length (entries_among cs))) (items_among cs)) (all_differ nat_eq (map index_in (items_among cs))) i.1 in
    record { sorts = p.0; one_keys = eqb-true _ _ r.0; one_items = eqb-true _ _ r.1; differ = i.0; within = j.0; once = j.1 }

set_lawful : (name raw : List ℕ) (cs : List KeyChild) → Lawful cs → is_lawful (map (child_set name (index_of name (entries_among cs)) raw) cs) ≡ true
set_lawful name raw cs l =
    let n = index_of name (entries_among cs) in
    let es = entries_among cs in
    let is = items_among cs in
    rw (sorts_stay (child_set name n raw) (set_sorts name n raw) cs, entries_set name n raw cs l.one_keys, items_set name n raw cs l.one_items) (
    rw (
      l.sorts,
      differ_more name es l.differ,
      within_more (length es) (length (with_entry name es)) n raw is (entries_more name es) (index_low name es) (index_within name es) l.within,
      items_differ n raw is l.once,
    ) refl
    )

left_lawful : (index : ℕ) (cs : List KeyChild) → Lawful cs → is_lawful (map (child_without index) cs) ≡ true
left_lawful index cs l =
    rw (sorts_stay (child_without index) (left_sorts index) cs, entries_left index cs, items_left index cs) (
    rw (l.sorts, l.differ, left_within (length (entries_among cs)) index (items_among cs) l.within, left_differ index (items_among cs) l.once) refl
    )

pub well_set : (name : List ℕ) (raw : Option (List ℕ)) (t : KeyTable) → IsKeyValue raw → Well t → Well (with_key name raw t)
well_set name None t v w =
    let n = index_of name (entries_of t) in
    record { children = left_children n t.children w.children; lawful = left_lawful n t.children (lawful_parts t.children w.lawful) }
well_set name (Some raw) t v w =
    record { children = set_children name (index_of name (entries_of t)) raw t.children v w.children; lawful = set_lawful name raw t.children (lawful_parts t.children w.lawful) }

-- ---- what keys have

-- a key is among the entries
abbrev pub has_key : List ℕ → List KeyEntry → Bool
has_key name es = list_any (names name) es

index_there : (name : List ℕ) (es : List KeyEntry) → has_key name es ≡ true → index_of name es ≤ length es
index_there name [] h = absurd cc
index_there name (e ∷ es) h = go (names name e) h (index_there name es)
  where
    go : (t : Bool) → (t || has_key name es) ≡ true → (has_key name es ≡ true → index_of name es ≤ length es) → cond t 1 (suc (index_of name es)) ≤ suc (length es)
    go true g more = omega arith
    go false g more = omega (arith, more g)

index_absent : (name : List ℕ) (es : List KeyEntry) → has_key name es ≡ false → index_of name es ≡ suc (length es)
index_absent name [] h = refl
index_absent name (e ∷ es) h = go (names name e) h (index_absent name es)
  where
    go : (t : Bool) → (t || has_key name es) ≡ false → (has_key name es ≡ false → index_of name es ≡ suc (length es)) → cond t 1 (suc (index_of name es)) ≡ suc (suc (length es))
    go true g more = absurd cc
    go false g more = ap suc (more g)

-- the index of a key is that of its entry, also once that is new
index_again : (name : List ℕ) (es : List KeyEntry) → index_of name (with_entry name es) ≡ index_of name es
index_again name [] = ap (λ (t : Bool). cond t 1 2) (same_refl name)
index_again name (e ∷ es) = go (names name e) refl (index_again name es)
  where
    go : (t : Bool) → names name e ≡ t → index_of name (with_entry name es) ≡ index_of name es → index_of name (cond t (e ∷ es) (e ∷ with_entry name es)) ≡ cond t 1 (suc (index_of name es))
    go true i more = ap (λ (u : Bool). cond u 1 (suc (index_of name es))) i
    go false i more = ap (λ (u : Bool). cond u 1 (suc (index_of name (with_entry name es)))) i ∙ ap suc more

-- the names of one entry are one
one_name : (a b : List ℕ) (e : KeyEntry) → names a e ≡ true → names b e ≡ true → a ≡ b
one_name a b e h g =
    let p = and_parts (is_key e) (bytes_eq e.name a) h in
    let q = and_parts (is_key e) (bytes_eq e.name b) g in
    sym (same_true e.name a p.1) ∙ same_true e.name b q.1

-- two keys have two indexes
index_apart : (a b : List ℕ) (es : List KeyEntry) → a ≢ b → has_key a es ≡ true → index_of a es ≢ index_of b es
index_apart a b [] n h = absurd cc
index_apart a b (e ∷ es) n h = go (names a e) (names b e) refl refl h (index_apart a b es n) (index_low a es) (index_low b es)
  where
    go : (t u : Bool) → names a e ≡ t → names b e ≡ u → (t || has_key a es) ≡ true → (has_key a es ≡ true → index_of a es ≢ index_of b es) → 1 ≤ index_of a es → 1 ≤ index_of b es → cond t 1 (suc (index_of a es)) ≢ cond u 1 (suc (index_of b es))
    go true true i j g more la lb f = n (one_name a b e i j)
    go true false i j g more la lb e = omega (arith, e, lb)
    go false true i j g more la lb e = omega (arith, e, la)
    go false false i j g more la lb e = more g (omega (arith, e))

other_index : (other name : List ℕ) (es : List KeyEntry) → has_key other es ≡ true → index_of other (with_entry name es) ≡ index_of other es
other_index other name [] h = absurd cc
other_index other name (e ∷ es) h = go (names name e) (names other e) refl h (other_index other name es)
  where
    go : (t u : Bool) → names other e ≡ u → (u || has_key other es) ≡ true → (has_key other es ≡ true → index_of other (with_entry name es) ≡ index_of other es) → index_of other (cond t (e ∷ es) (e ∷ with_entry name es)) ≡ cond u 1 (suc (index_of other es))
    go true u i g more = ap (λ (v : Bool). cond v 1 (suc (index_of other es))) i
    go false true i g more = ap (λ (v : Bool). cond v 1 (suc (index_of other (with_entry name es)))) i
    go false false i g more = ap (λ (v : Bool). cond v 1 (suc (index_of other (with_entry name es)))) i ∙ ap suc (more g)

no_other : (other name : List ℕ) (es : List KeyEntry) → other ≢ name → has_key other es ≡ false → has_key other (with_entry name es) ≡ false
no_other other name [] n h = go (bytes_eq name other) refl
  where
    go : (t : Bool) → bytes_eq name other ≡ t → (t || false) ≡ false
    go true e = absurd (n (sym (same_true name other e)))
    go false e = refl
no_other other name (e ∷ es) n h = let p = neither (names other e) (has_key other es) h in go (names name e) p.0 p.1 (no_other other name es n p.1)
  where
    go : (t : Bool) → names other e ≡ false → has_key other es ≡ false → has_key other (with_entry name es) ≡ false → has_key other (cond t (e ∷ es) (e ∷ with_entry name es)) ≡ false
    go true a b more = none_of (names other e) (has_key other es) a b
    go false a b more = none_of (names other e) (has_key other (with_entry name es)) a more

-- ---- the values of an index

values_set : (index : ℕ) (raw : List ℕ) (is : List KeyItem) → values_at index (with_item index raw is) ≡ raw ∷ []
values_set index raw [] = ap (λ (t : Bool). cond t (raw ∷ []) []) (eq-eqb index index refl)
values_set index raw (i ∷ is) = go (i.index == index) refl (values_set index raw is)
  where
    go : (t : Bool) → (i.index == index) ≡ t → values_at index (with_item index raw is) ≡ raw ∷ [] → values_at index (cond t (item_of index raw ∷ is) (i ∷ with_item index raw is)) ≡ raw ∷ []
    go true e more = ap (λ (t : Bool). cond t (raw ∷ []) (values_at index is)) (eq-eqb index index refl)
    go false e more = ap (λ (t : Bool). cond t i.values (values_at index (with_item index raw is))) e ∙ more

apart_test : (a b : ℕ) → a ≢ b → (a == b) ≡ false
apart_test a b n = go (a == b) refl
  where
    go : (t : Bool) → (a == b) ≡ t → t ≡ false
    go true e = absurd (n (eqb-true a b e))
    go false e = refl

values_other : (j index : ℕ) (raw : List ℕ) (is : List KeyItem) → index ≢ j → values_at j (with_item index raw is) ≡ values_at j is
values_other j index raw [] n = ap (λ (t : Bool). cond t (raw ∷ []) []) (apart_test index j n)
values_other j index raw (i ∷ is) n = go (i.index == index) refl (values_other j index raw is n)
  where
    go : (t : Bool) → (i.index == index) ≡ t → values_at j (with_item index raw is) ≡ values_at j is → values_at j (cond t (item_of index raw ∷ is) (i ∷ with_item index raw is)) ≡ values_at j (i ∷ is)
    go true e more =
        ap (λ (t : Bool). cond t (raw ∷ []) (values_at j is)) (apart_test index j n)
        ∙ sym (ap (λ (t : Bool). cond t i.values (values_at j is)) (apart_test i.index j (λ f. n (sym (eqb-true i.index index e) ∙ f))))
    go false e more = ap (λ (vs : List (List ℕ)). cond (i.index == j) i.values vs) more

values_kept : (j index : ℕ) (is : List KeyItem) → index ≢ j → values_at j (without_item index is) ≡ values_at j is
values_kept j index [] n = refl
values_kept j index (i ∷ is) n = go (i.index == index) refl (values_kept j index is n)
  where
    go : (t : Bool) → (i.index == index) ≡ t → values_at j (without_item index is) ≡ values_at j is → values_at j (cond t is (i ∷ without_item index is)) ≡ values_at j (i ∷ is)
    go true e more = sym (ap (λ (t : Bool). cond t i.values (values_at j is)) (apart_test i.index j (λ f. n (sym (eqb-true i.index index e) ∙ f))))
    go false e more = ap (λ (vs : List (List ℕ)). cond (i.index == j) i.values vs) more

values_none : (j : ℕ) (is : List KeyItem) → list_any (nat_eq j) (map index_in is) ≡ false → values_at j is ≡ []
values_none j [] h = refl
values_none j (i ∷ is) h =
    let p = neither (nat_eq j i.index) (list_any (nat_eq j) (map index_in is)) h in
    ap (λ (t : Bool). cond t i.values (values_at j is)) (apart_test i.index j (λ e. absurd (let yes : nat_eq j i.index ≡ true = eq-eqb j i.index (sym e) in cc))) ∙ values_none j is p.1

values_gone : (index : ℕ) (is : List KeyItem) → all_differ nat_eq (map index_in is) ≡ true → values_at index (without_item index is) ≡ []
values_gone index [] h = refl
values_gone index (i ∷ is) h = go (i.index == index) (list_any (nat_eq i.index) (map index_in is)) refl refl h (values_gone index is)
  where
    go : (t u : Bool) → (i.index == index) ≡ t → list_any (nat_eq i.index) (map index_in is) ≡ u → (not u && all_differ nat_eq (map index_in is)) ≡ true → (all_differ nat_eq (map index_in is) ≡ true → values_at index (without_item index is) ≡ []) → values_at index (cond t is (i ∷ without_item index is)) ≡ []
    go t true e k g more = absurd cc
    go true false e k g more = values_none index is (subst (λ (n : ℕ). list_any (nat_eq n) (map index_in is) ≡ false) (eqb-true i.index index e) k)
    go false false e k g more = ap (λ (t : Bool). cond t i.values (values_at index (without_item index is))) e ∙ more g

-- an index that is that of no entry has no values
values_past : (n j : ℕ) (is : List KeyItem) → n < j → list_all (is_within n) is ≡ true → values_at j is ≡ []
values_past n j [] lt h = refl
values_past n j (i ∷ is) lt h =
    let p = and_parts (is_within n i) (list_all (is_within n) is) h in
    let q = and_parts (leb 1 i.index) (leb i.index n) p.0 in
    ap (λ (t : Bool). cond t i.values (values_at j is)) (apart_test i.index j (λ e. omega (arith, e, leb-true i.index n q.1, lt))) ∙ values_past n j is lt p.1

-- ---- the key that is set, and the others

pub key_is_set : (name : List ℕ) (raw : Option (List ℕ)) (t : KeyTable) → Well t → key_values name (with_key name raw t) ≡ elim raw [ None ↦ [] | Some r ↦ r ∷ [] ]
key_is_set name None t w =
    let cs = t.children in
    let n = index_of name (entries_of t) in
    let l = lawful_parts cs w.lawful in
    ap (λ (es : List KeyEntry). values_at (index_of name es) (items_among (map (child_without n) cs))) (entries_left n cs)
    ∙ ap (values_at n) (items_left n cs) ∙ values_gone n (items_among cs) l.once
key_is_set name (Some raw) t w =
    let cs = t.children in
    let n = index_of name (entries_of t) in
    let l = lawful_parts cs w.lawful in
    ap (λ (es : List KeyEntry). values_at (index_of name es) (items_among (map (child_set name n raw) cs))) (entries_set name n raw cs l.one_keys)
    ∙ ap (λ (k : ℕ). values_at k (items_among (map (child_set name n raw) cs))) (index_again name (entries_among cs))
    ∙ ap (values_at n) (items_set name n raw cs l.one_items) ∙ values_set n raw (items_among cs)

pub others_stay : (other name : List ℕ) (raw : Option (List ℕ)) (t : KeyTable) → other ≢ name → Well t → key_values other (with_key name raw t) ≡ key_values other t
others_stay other name None t apart w =
    let cs = t.children in
    let n = index_of name (entries_of t) in
    let l = lawful_parts cs w.lawful in
    ap (λ (es : List KeyEntry). values_at (index_of other es) (items_among (map (child_without n) cs))) (entries_left n cs)
    ∙ ap (values_at (index_of other (entries_among cs))) (items_left n cs) ∙ go (has_key other (entries_among cs)) refl l
  where
    go : (t' : Bool) → has_key other (entries_of t) ≡ t' → Lawful t.children → values_at (index_of other (entries_of t)) (without_item (index_of name (entries_of t)) (items_of t)) ≡ values_at (index_of other (entries_of t)) (items_of t)
    go true h l = values_kept (index_of other (entries_of t)) (index_of name (entries_of t)) (items_of t) (λ e. index_apart other name (entries_of t) apart h (sym e))
    go false h l =
        let past = index_absent other (entries_of t) h in
        values_past (length (entries_of t)) (index_of other (entries_of t)) _ (omega (arith, past)) (left_within (length (entries_of t)) (index_of name (entries_of t)) (items_of t) l.within)
        ∙ sym (values_past (length (entries_of t)) (index_of other (entries_of t)) (items_of t) (omega (arith, past)) l.within)
others_stay other name (Some raw) t apart w =
    let cs = t.children in
    let n = index_of name (entries_of t) in
    let l = lawful_parts cs w.lawful in
    ap (λ (es : List KeyEntry). values_at (index_of other es) (items_among (map (child_set name n raw) cs))) (entries_set name n raw cs l.one_keys)
    ∙ ap (values_at (index_of other (with_entry name (entries_among cs)))) (items_set name n raw cs l.one_items) ∙ go (has_key other (entries_among cs)) refl l
  where
    go : (t' : Bool) → has_key other (entries_of t) ≡ t' → Lawful t.children
        → values_at (index_of other (with_entry name (entries_of t))) (with_item (index_of name (entries_of t)) raw (items_of t)) ≡ values_at (index_of other (entries_of t)) (items_of t)
    go true h l =
        ap (λ (k : ℕ). values_at k (with_item (index_of name (entries_of t)) raw (items_of t))) (other_index other name (entries_of t) h)
        ∙ values_other (index_of other (entries_of t)) (index_of name (entries_of t)) raw (items_of t) (λ e. index_apart other name (entries_of t) apart h (sym e))
    go false h l =
        let es = entries_of t in
        let n = index_of name es in
        let past = index_absent other es h in
        let past_new = index_absent other (with_entry name es) (no_other other name es apart h) in
        values_past (length (with_entry name es)) (index_of other (with_entry name es)) _ (omega (arith, past_new)) (within_more (length es) (length (with_entry name es)) n raw (items_of t) (entries_more name es) (index_low name es) (index_within name es) l.within)
        ∙ sym (values_past (length es) (index_of other es) (items_of t) (omega (arith, past)) l.within)

-- ---- entries as they are copied

pub entry_there : (name : List ℕ) (es : List KeyEntry) → has_key name es ≡ true → with_entry name es ≡ es
entry_there name [] h = absurd cc
entry_there name (e ∷ es) h = go (names name e) h (entry_there name es)
  where
    go : (t : Bool) → (t || has_key name es) ≡ true → (has_key name es ≡ true → with_entry name es ≡ es) → cond t (e ∷ es) (e ∷ with_entry name es) ≡ e ∷ es
    go true g more = refl
    go false g more = ap (λ (xs : List KeyEntry). e ∷ xs) (more g)

pub entry_added : (name : List ℕ) (es : List KeyEntry) → has_key name es ≡ false → with_entry name es ≡ es ++ new_entry name ∷ []
entry_added name [] h = refl
entry_added name (e ∷ es) h = go (names name e) h (entry_added name es)
  where
    go : (t : Bool) → (t || has_key name es) ≡ false → (has_key name es ≡ false → with_entry name es ≡ es ++ new_entry name ∷ []) → cond t (e ∷ es) (e ∷ with_entry name es) ≡ e ∷ (es ++ new_entry name ∷ [])
    go true g more = absurd cc
    go false g more = ap (λ (xs : List KeyEntry). e ∷ xs) (more g)

-- ---- a table that is read stays one

-- the bytes of a new entry, of a new item and of all else are bytes
pub read_set : (name : List ℕ) (raw : Option (List ℕ)) (t : KeyTable) → IsKeyValue raw → IsRead t → IsBytes (table_bytes (with_key name raw t)) → length (table_bytes (with_key name raw t)) ≤ 2 ^ 24 → IsRead (with_key name raw t)
read_set name raw t v r bytes small =
    record { bytes = bytes; read = well_again (with_key name raw t) (well_set name raw t v (read_well (table_bytes t) t r.bytes r.read)) small }

-- ---- the table that a call makes

pub is_left : (name : List ℕ) (t u : KeyTable) (n : ℕ) (cs : List KeyChild) (es : List KeyEntry) → cs ≡ t.children → es ≡ entries_among cs → n ≡ index_of name es → u.children ≡ map (child_without n) cs → u ≡ with_key name None t
is_left name t u n cs es c e i made =
    let index : n ≡ index_of name (entries_among t.children) = i ∙ ap (index_of name) (e ∙ ap entries_among c) in
    ap (λ (xs : List KeyChild). record { children = xs }) (made ∙ ap (λ (k : ℕ). map (child_without k) cs) index ∙ ap (map (child_without (index_of name (entries_among t.children)))) c)

pub is_set : (name raw : List ℕ) (t u : KeyTable) (n : ℕ) (cs : List KeyChild) (es : List KeyEntry) → cs ≡ t.children → es ≡ entries_among cs → n ≡ index_of name es → u.children ≡ map (child_set name n raw) cs → u ≡ with_key name (Some raw) t
is_set name raw t u n cs es c e i made =
    let index : n ≡ index_of name (entries_among t.children) = i ∙ ap (index_of name) (e ∙ ap entries_among c) in
    ap (λ (xs : List KeyChild). record { children = xs }) (made ∙ ap (λ (k : ℕ). map (child_set name k raw) cs) index ∙ ap (map (child_set name (index_of name (entries_among t.children)) raw)) c)

pub when_ok : {A E : Type 0} {P Q : A → Type 0} (r : Result A E) → ((a : A) → P a → Q a) → IfOk r P → IfOk r Q
when_ok (Ok a) f h = f a h
when_ok (Err e) f h = h
