-- The values of a table's keys are those of its items, each by its entry.
use Rattle.std.proofs.Common.{◌≡◌, ◌∙◌, ℕ, zero, suc, ◌+◌, ◌-◌, ◌<◌, ◌≤◌, Bool, true, false, cond, List, [], ◌∷◌, ◌++◌, length, map, drop, get_or, refl, sym, ap, subst, arith, eqb, leb, ◌⊎◌, inl, inr, Option, Some, None}
use Rattle.std.specs.Prelude.{nat_eq, not, ◌&&◌, ◌||◌, ◌==◌}
use Rattle.std.specs.List.{AllByRecursion, flat_map, list_all, list_any}
use Rattle.std.specs.Str.{bytes_eq}
use Rattle.std.proofs.lemmas.Bool.{and_parts, cases_lt, eq-eqb, eqb-false, eqb-true, leb-true, ne_eqb, not-true}
use Rattle.std.proofs.lemmas.List.{append-nil, at_drop_more, at_drop_all, map-append}
use Rattle.container_model.proofs.Tests.{neither}
use Rattle.field_model.specs.Fields.{FieldMap, plain}
use Rattle.field_model.specs.Lawful.{HasKeyHead}
use Rattle.mov_model.proofs.Keys.{Long, values_long}
use Rattle.part_tree.proofs.Places.{bytes_refl, bytes_same}
use Rattle.part_tree.specs.Fields.{values}
use Rattle.part_tree.specs.Keys.{is_key_name}
use Rattle.part_tree.specs.Names.{same_name}
use Rattle.part_tree.specs.declared.field.BextField.{BextField}
use Rattle.part_tree.specs.declared.field.FieldName.{FieldName}
use Rattle.part_tree.specs.declared.field.FieldName.TheVariants.{Bext, Info, Whole, User, Key, Stream}
use Rattle.part_tree.specs.declared.field.Value.{Value}
use Rattle.part_tree.specs.declared.fields.Entry.{Entry}
use Rattle.qt_keys.proofs.Again.{Well}
use Rattle.qt_keys.proofs.Found.{read_well}
use Rattle.qt_keys.proofs.Keyed.{Lawful, lawful_parts}
use Rattle.qt_keys.specs.Read.{IsRead}
use Rattle.qt_keys.specs.Set.{index_of, key_values, names, values_at}
use Rattle.qt_keys.specs.Table.{all_differ, entries_of, index_in, is_key, is_within, items_of, key_names, names_differ, table_bytes}
use Rattle.qt_keys.specs.declared.table.KeyEntry.{KeyEntry}
use Rattle.qt_keys.specs.declared.table.KeyItem.{KeyItem}
use Rattle.qt_keys.specs.declared.table.KeyTable.{KeyTable}
use Rattle.mov_file.specs.Fields.{Grows, StayLawful, under}
use Rattle.mov_file.specs.Keys.{item_values, items_held, keys_held, names_at}
use Rattle.mov_file.proofs.Grown.{Owes, grown_as, not_grown, owes_end, owes_next}

-- ---- an entry by its number

-- the name of no entry that is left
none_at : (name : List ℕ) (es : List KeyEntry) (n : ℕ) → list_any (bytes_eq name) (flat_map key_names es) ≡ false → names_at name es n ≡ false
none_at name [] n h = refl
none_at name (e ∷ es) n h = go (n == 1) (is_key e) (bytes_eq e.name name) refl refl h (none_at name es (n - 1))
  where
    go : (t u v : Bool) → is_key e ≡ u → bytes_eq e.name name ≡ v → list_any (bytes_eq name) (cond u (e.name ∷ []) [] ++ flat_map key_names es) ≡ false → (list_any (bytes_eq name) (flat_map key_names es) ≡ false → names_at name es (n - 1) ≡ false)
        → cond t (is_key e && bytes_eq e.name name) (names_at name es (n - 1)) ≡ false
    go false true v i j g more = more (neither (bytes_eq name e.name) (list_any (bytes_eq name) (flat_map key_names es)) g).1
    go false false v i j g more = more g
    go true false v i j g more = rw i refl
    go true true false i j g more = rw (i, j) refl
    go true true true i j g more =
        let one : bytes_eq name e.name ≡ false = (neither (bytes_eq name e.name) (list_any (bytes_eq name) (flat_map key_names es)) g).0 in
        let same : bytes_eq name e.name ≡ true = ap (λ (x : List ℕ). bytes_eq name x) (bytes_same e.name name j) ∙ bytes_refl name in
        absurd cc

index_low : (name : List ℕ) (es : List KeyEntry) → 1 ≤ index_of name es
index_low name [] = omega arith
index_low name (e ∷ es) = go (names name e) (index_low name es)
  where
    go : (t : Bool) → 1 ≤ index_of name es → 1 ≤ cond t 1 (suc (index_of name es))
    go true le = omega arith
    go false le = omega arith

-- where no two keys have a name, the entry of a number has this name exactly where the number is the index of that
named_at : (name : List ℕ) (es : List KeyEntry) (n : ℕ) → names_differ es ≡ true → 1 ≤ n → n ≤ length es → names_at name es n ≡ eqb n (index_of name es)
named_at name [] n d low high = absurd (omega arith)
named_at name (e ∷ es) n d low high = go (eqb n 1) refl (is_key e) (bytes_eq e.name name) refl refl d (λ more le lo. named_at name es (n - 1) more lo le)
  where
    above : eqb n 1 ≡ false → 1 ≤ n - 1
    above k = elim (cases_lt 1 n) [
      | inl less ↦ omega arith
      | inr more ↦ absurd (let one : eqb n 1 ≡ true = eq-eqb n 1 (omega arith) in cc)
    ]

    less : (m i : ℕ) → 1 ≤ m - 1 → eqb (m - 1) i ≡ eqb m (suc i)
    less zero i le = absurd (omega arith)
    less (suc m) i le = by (eqb (suc m - 1) i) refl
      where
        by : (t : Bool) → eqb (suc m - 1) i ≡ t → eqb (suc m - 1) i ≡ eqb (suc m) (suc i)
        by true e = e ∙ sym (eq-eqb (suc m) (suc i) (omega (arith, eqb-true (suc m - 1) i e)))
        by false e = e ∙ sym (ne_eqb (suc m) (suc i) (λ f. eqb-false (suc m - 1) i e (omega (arith, f))))

    one_less : eqb n 1 ≡ false → eqb (n - 1) (index_of name es) ≡ eqb n (suc (index_of name es))
    one_less k = less n (index_of name es) (above k)

    go : (t : Bool) → eqb n 1 ≡ t → (u v : Bool) → is_key e ≡ u → bytes_eq e.name name ≡ v → all_differ bytes_eq (cond u (e.name ∷ []) [] ++ flat_map key_names es) ≡ true
        → (names_differ es ≡ true → n - 1 ≤ length es → 1 ≤ n - 1 → names_at name es (n - 1) ≡ eqb (n - 1) (index_of name es))
        → cond t (is_key e && bytes_eq e.name name) (names_at name es (n - 1)) ≡ eqb n (cond (is_key e && bytes_eq e.name name) 1 (suc (index_of name es)))
    go true k true true i j g more = rw (i, j) (sym k)
    go true k true false i j g more = rw (i, j) (sym (ne_eqb n (suc (index_of name es)) (λ e. omega (arith, e, eqb-true n 1 k, index_low name es))))
    go true k false v i j g more = rw i (sym (ne_eqb n (suc (index_of name es)) (λ e. omega (arith, e, eqb-true n 1 k, index_low name es))))
    go false k true true i j g more =
        let p = and_parts (not (list_any (bytes_eq e.name) (flat_map key_names es))) (names_differ es) g in
        let other = subst (λ (x : List ℕ). list_any (bytes_eq x) (flat_map key_names es) ≡ false) (bytes_same e.name name j) (not-true (list_any (bytes_eq e.name) (flat_map key_names es)) p.0) in
        rw (i, j) (none_at name es (n - 1) other ∙ sym k)
    go false k true false i j g more = rw (i, j) (more (and_parts (not (list_any (bytes_eq e.name) (flat_map key_names es))) (names_differ es) g).1 (omega arith) (above k) ∙ one_less k)
    go false k false v i j g more = rw i (more g (omega arith) (above k) ∙ one_less k)

-- ---- items

-- no item of a number
none_of_index : (n : ℕ) (es : List KeyEntry) (is : List KeyItem) (name : List ℕ) → list_any (nat_eq n) (map index_in is) ≡ false → values_at n is ≡ []
none_of_index n es [] name h = refl
none_of_index n es (i ∷ is) name h =
    let p = neither (nat_eq n i.index) (list_any (nat_eq n) (map index_in is)) h in
    go (eqb i.index n) refl p.0 (none_of_index n es is name p.1)
  where
    go : (t : Bool) → eqb i.index n ≡ t → eqb n i.index ≡ false → values_at n is ≡ [] → cond t i.values (values_at n is) ≡ []
    go true e f more = absurd (let same : eqb n i.index ≡ true = eq-eqb n i.index (sym (eqb-true i.index n e)) in cc)
    go false e f more = more

-- the values of a name in some items are those of its index
pub values_joined : (name : List ℕ) (es : List KeyEntry) (is : List KeyItem) → names_differ es ≡ true → list_all (is_within (length es)) is ≡ true → all_differ nat_eq (map index_in is) ≡ true
    → flat_map (λ i. item_values es i name) is ≡ values_at (index_of name es) is
values_joined name es [] d w o = refl
values_joined name es (i ∷ is) d w o =
    let p = and_parts (is_within (length es) i) (list_all (is_within (length es)) is) w in
    let q = and_parts (leb 1 i.index) (leb i.index (length es)) p.0 in
    let r = and_parts (not (list_any (nat_eq i.index) (map index_in is))) (all_differ nat_eq (map index_in is)) o in
    let at = named_at name es i.index d (leb-true 1 i.index q.0) (leb-true i.index (length es) q.1) in
    ap (λ (t : Bool). cond t i.values [] ++ flat_map (λ (j : KeyItem). item_values es j name) is) at
    ∙ go (eqb i.index (index_of name es)) refl r.0 (values_joined name es is d p.1 r.1)
  where
    go : (t : Bool) → eqb i.index (index_of name es) ≡ t → not (list_any (nat_eq i.index) (map index_in is)) ≡ true → flat_map (λ (j : KeyItem). item_values es j name) is ≡ values_at (index_of name es) is
        → cond t i.values [] ++ flat_map (λ (j : KeyItem). item_values es j name) is ≡ cond t i.values (values_at (index_of name es) is)
    go true e n again =
        let none : values_at (index_of name es) is ≡ [] = none_of_index (index_of name es) es is name (subst (λ (m : ℕ). list_any (nat_eq m) (map index_in is) ≡ false) (eqb-true i.index (index_of name es) e) (not-true _ n)) in
        ap (λ (x : List (List ℕ)). i.values ++ x) (again ∙ none) ∙ append-nil i.values
    go false e n again = again

-- ---- fields

-- the values of the keys in some items
pub held_joined : (es : List KeyEntry) (is : List KeyItem) (name : List ℕ) → items_held es is (Key name) ≡ cond (is_key_name name) (map plain (flat_map (λ i. item_values es i name) is)) []
held_joined es [] name = go (is_key_name name)
  where
    go : (t : Bool) → items_held es [] (Key name) ≡ cond t (map plain (flat_map (λ (i : KeyItem). item_values es i name) [])) []
    go true = refl
    go false = refl
held_joined es (i ∷ is) name = ap (λ (vs : List Value). cond (is_key_name name) (map plain (item_values es i name)) [] ++ vs) (held_joined es is name) ∙ go (is_key_name name)
  where
    go : (t : Bool) → cond t (map plain (item_values es i name)) [] ++ cond t (map plain (flat_map (λ (j : KeyItem). item_values es j name) is)) []
        ≡ cond t (map plain (item_values es i name ++ flat_map (λ (j : KeyItem). item_values es j name) is)) []
    go true = sym (map-append plain (item_values es i name) (flat_map (λ (j : KeyItem). item_values es j name) is))
    go false = refl

pub well_read : (t : KeyTable) → IsRead t → Well t
well_read t r = read_well (table_bytes t) t r.bytes r.read

pub table_held : (t : KeyTable) → IsRead t → (n : FieldName) → items_held (entries_of t) (items_of t) n ≡ keys_held t n
table_held t r (Key name) =
    let l = lawful_parts t.children (well_read t r).lawful in
    held_joined (entries_of t) (items_of t) name ∙ ap (λ (vs : List (List ℕ)). cond (is_key_name name) (map plain vs) []) (values_joined name (entries_of t) (items_of t) l.differ l.within l.once)
table_held t r (Bext x) = refl
table_held t r (Info x) = refl
table_held t r (Whole x) = refl
table_held t r (User x) = refl
table_held t r (Stream x) = refl

-- ---- one item

pub held_more : (es : List KeyEntry) (i : KeyItem) (is : List KeyItem) (n : FieldName) → items_held es (i ∷ is) n ≡ items_held es (i ∷ []) n ++ items_held es is n
held_more es i is (Key name) = ap (λ (vs : List Value). vs ++ items_held es is (Key name)) (sym (append-nil (cond (is_key_name name) (map plain (item_values es i name)) [])))
held_more es i is (Bext x) = refl
held_more es i is (Info x) = refl
held_more es i is (Whole x) = refl
held_more es i is (User x) = refl
held_more es i is (Stream x) = refl

pub no_items : (es : List KeyEntry) (n : FieldName) → items_held es [] n ≡ []
no_items es (Key name) = refl
no_items es (Bext x) = refl
no_items es (Info x) = refl
no_items es (Whole x) = refl
no_items es (User x) = refl
no_items es (Stream x) = refl

-- no entry has the number 0, or one past all
none_low : (name : List ℕ) (es : List KeyEntry) (n : ℕ) → n ≡ 0 → names_at name es n ≡ false
none_low name [] n e = refl
none_low name (x ∷ es) n e = rw (ne_eqb n 1 (λ f. omega (arith, e, f))) (none_low name es (n - 1) (omega (arith, e)))

none_high : (name : List ℕ) (es : List KeyEntry) (n : ℕ) → length es < n → names_at name es n ≡ false
none_high name [] n lt = refl
none_high name (x ∷ es) n lt = rw (ne_eqb n 1 (λ f. omega (arith, f))) (none_high name es (n - 1) (omega arith))

at_number : (name : List ℕ) (es : List KeyEntry) (k : ℕ) (e : KeyEntry) → k < length es → e ≡ get_or es k e → names_at name es (k + 1) ≡ names name e
at_number name [] k e lt is = absurd (omega arith)
at_number name (x ∷ es) zero e lt is = ap (names name) (sym is)
at_number name (x ∷ es) (suc k) e lt is =
    let back : suc k + 1 - 1 ≡ k + 1 = omega arith in
    rw (ne_eqb (suc k + 1) 1 (λ f. omega (arith, f))) (ap (names_at name es) back ∙ at_number name es k e (omega arith) is)

one_held : (es : List KeyEntry) (i : KeyItem) (name : List ℕ) (t : Bool) → names_at name es i.index ≡ t → items_held es (i ∷ []) (Key name) ≡ cond (is_key_name name) (map plain (cond t i.values [])) []
one_held es i name t e = append-nil (cond (is_key_name name) (map plain (item_values es i name)) []) ∙ ap (λ (u : Bool). cond (is_key_name name) (map plain (cond u i.values [])) []) e

nothing_held : (es : List KeyEntry) (i : KeyItem) → ((name : List ℕ) → (is_key_name name ≡ true) → names_at name es i.index ≡ false) → (n : FieldName) → items_held es (i ∷ []) n ≡ []
nothing_held es i none (Key name) = go (is_key_name name) refl
  where
    go : (t : Bool) → is_key_name name ≡ t → items_held es (i ∷ []) (Key name) ≡ []
    go true e = one_held es i name false (none name e) ∙ rw e refl
    go false e = one_held es i name (names_at name es i.index) refl ∙ rw e refl
nothing_held es i none (Bext x) = refl
nothing_held es i none (Info x) = refl
nothing_held es i none (Whole x) = refl
nothing_held es i none (User x) = refl
nothing_held es i none (Stream x) = refl

-- an item without an entry
pub item_astray : (old : List Entry) (es : List KeyEntry) (i : KeyItem) → (i.index ≡ 0) ⊎ (length es < i.index) → Grows old old (items_held es (i ∷ []))
item_astray old es i (inl e) = not_grown old (items_held es (i ∷ [])) (nothing_held es i (λ name k. none_low name es i.index e))
item_astray old es i (inr lt) = not_grown old (items_held es (i ∷ [])) (nothing_held es i (λ name k. none_high name es i.index lt))

module _ (old new : List Entry) (es : List KeyEntry) (i : KeyItem) (k : ℕ) (e : KeyEntry) (number : i.index ≡ k + 1) (lt : k < length es) (is : e ≡ get_or es k e) where
  at_index : (name : List ℕ) → names_at name es i.index ≡ names name e
  at_index name = ap (names_at name es) number ∙ at_number name es k e lt is

  -- an item whose entry is no field
  pub item_other : (is_key e && is_key_name e.name) ≡ false → Grows old old (items_held es (i ∷ []))
  item_other other = not_grown old (items_held es (i ∷ [])) (nothing_held es i (λ name key. at_index name ∙ go name (is_key e) (bytes_eq e.name name) refl refl other key))
    where
      go : (name : List ℕ) (u v : Bool) → is_key e ≡ u → bytes_eq e.name name ≡ v → (u && is_key_name e.name) ≡ false → is_key_name name ≡ true → names name e ≡ false
      go name false v a b n key = rw a refl
      go name true false a b n key = rw (a, b) refl
      go name true true a b n key = let named : is_key_name e.name ≡ true = ap is_key_name (bytes_same e.name name b) ∙ key in absurd cc

  -- an item whose entry is a field
  pub item_field : (is_key e && is_key_name e.name) ≡ true → Grows old new (under (Key e.name) (map plain i.values)) → Grows old new (items_held es (i ∷ []))
  item_field holds grown = grown_as old new (under (Key e.name) (map plain i.values)) (items_held es (i ∷ [])) grown same
    where
      p : (is_key e ≡ true) × (is_key_name e.name ≡ true)
      p = and_parts (is_key e) (is_key_name e.name) holds

      go : (name : List ℕ) (v : Bool) → bytes_eq e.name name ≡ v → cond v (map plain i.values) [] ≡ cond (is_key_name name) (map plain (cond v i.values [])) []
      go name true b = let key : is_key_name name ≡ true = ap is_key_name (sym (bytes_same e.name name b)) ∙ p.1 in rw key refl
      go name false b = none (is_key_name name)
        where
          none : (t : Bool) → cond false (map plain i.values) [] ≡ cond t (map plain (cond false i.values [])) []
          none true = refl
          none false = refl

      same : (n : FieldName) → under (Key e.name) (map plain i.values) n ≡ items_held es (i ∷ []) n
      same (Key name) =
          let there : names_at name es i.index ≡ bytes_eq e.name name = at_index name ∙ ap (λ (t : Bool). t && bytes_eq e.name name) p.0 in
          go name (bytes_eq e.name name) refl ∙ sym (one_held es i name (bytes_eq e.name name) there)
      same (Bext x) = refl
      same (Info x) = refl
      same (Whole x) = refl
      same (User x) = refl
      same (Stream x) = refl

-- ---- lawful fields

long_plain : (vs : List (List ℕ)) → AllByRecursion Long vs → AllByRecursion HasKeyHead (map plain vs)
long_plain [] h = tt
long_plain (v ∷ vs) h = (h.0, long_plain vs h.1)

both_long : (xs ys : List Value) → AllByRecursion HasKeyHead xs → AllByRecursion HasKeyHead ys → AllByRecursion HasKeyHead (xs ++ ys)
both_long [] ys h g = g
both_long (x ∷ xs) ys h g = (h.0, both_long xs ys h.1 g)

pub keys_lawful : (old new : List Entry) (t : KeyTable) → IsRead t → Grows old new (keys_held t) → StayLawful old new
keys_lawful old new t r grown law =
    let bext : (field : BextField) → values new (Bext field) ≡ values old (Bext field) = λ field. grown (Bext field) ∙ append-nil (values old (Bext field)) in
    record {
      bext = elim law.bext [
        | inl all ↦ inl (λ field. let x = all field in (x.0, bext field ∙ x.1, x.2))
        | inr none ↦ inr (λ field. bext field ∙ none field)
      ];
      keys = λ key. subst (AllByRecursion HasKeyHead) (sym (grown (Key key))) (both_long (values old (Key key)) (keys_held t (Key key)) (law.keys key) (go key (is_key_name key)));
    }
  where
    go : (name : List ℕ) (u : Bool) → AllByRecursion HasKeyHead (cond u (map plain (key_values name t)) [])
    go name true = long_plain (key_values name t) (values_long name t (well_read t r))
    go name false = tt

-- ---- all items

-- nothing is left of the items
pub take_end : (old now : List Entry) (t : KeyTable) (es : List KeyEntry) (k : ℕ) → es ≡ entries_of t → IsRead t → length (items_of t) ≤ k → Owes now old (items_held es (drop k (items_of t))) (items_held es (items_of t)) → Grows old now (keys_held t)
take_end old now t es k entries r le owes =
    let is = items_of t in
    let grown = owes_end old now (items_held es (drop k is)) (items_held es is) (λ n. at_drop_all (λ (js : List KeyItem). items_held es js n) is k le ∙ no_items es n) owes in
    grown_as old now (items_held es is) (keys_held t) grown (λ n. ap (λ (x : List KeyEntry). items_held x is n) entries ∙ table_held t r n)

-- one item more is read
pub take_next : (old now new : List Entry) (es : List KeyEntry) (is : List KeyItem) (k : ℕ) (i : KeyItem) → k < length is → i ≡ get_or is k i → Grows now new (items_held es (i ∷ [])) → Owes now old (items_held es (drop k is)) (items_held es is)
    → Owes new old (items_held es (drop (k + 1) is)) (items_held es is)
take_next old now new es is k i lt here grown owes =
    owes_next old now new (items_held es (i ∷ [])) (items_held es (drop k is)) (items_held es (drop (k + 1) is)) (items_held es is) grown
    (λ n. at_drop_more (λ (js : List KeyItem). items_held es js n) is k i lt ∙ ap (λ (j : KeyItem). items_held es (j ∷ drop (k + 1) is) n) (sym here) ∙ held_more es i (drop (k + 1) is) n) owes

-- the name that is kept
pub some_key : (name key : List ℕ) → is_key_name name ≡ true → Some key ≡ cond (is_key_name name) (Some name) None → key ≡ name
some_key name key good e = let is : Some key ≡ Some name = e ∙ ap (λ (t : Bool). cond t (Some name) None) good in cc
