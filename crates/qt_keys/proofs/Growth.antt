-- How much longer a key table is spelled with a key set or removed.
use Rattle.std.proofs.Common.{◌≡◌, ℕ, ◌+◌, ◌*◌, ◌≤◌, Bool, true, false, cond, List, [], ◌∷◌, ◌++◌, length, map, sym, ap, ◌∙◌, arith, Option, Some, None, length-append}
use Rattle.std.specs.Prelude.{codes, count_by, ◌&&◌, ◌==◌}
use Rattle.std.specs.Int.{to_be_bytes, w32}
use Rattle.std.specs.List.{flat_map, list_all}
use Rattle.std.proofs.lemmas.Bool.{and_parts, eqb-true}
use Rattle.std.proofs.lemmas.List.{append-nil}
use Rattle.std.proofs.lemmas.List.Sums.{sum_by-cons}
use Rattle.container_model.specs.Atoms.{atom}
use Rattle.container_model.specs.Chunk.{spell, spell_all}
use Rattle.qt_keys.specs.Read.{IsRead}
use Rattle.qt_keys.specs.Set.{child_set, child_without, growth, index_of, item_of, names, new_entry, with_entry, with_item, with_key, without_item}
use Rattle.qt_keys.specs.Table.{child_bytes, entries_of, entry_atom, handles_keys, has_each_once, is_handler, is_items, is_keys, is_lawful, item_atom, table_bytes, value_atom}
use Rattle.qt_keys.specs.declared.table.KeyChild.{KeyChild}
use Rattle.qt_keys.specs.declared.table.KeyChild.TheVariants.{Other, Keys, Items}
use Rattle.qt_keys.specs.declared.table.KeyEntry.{KeyEntry}
use Rattle.qt_keys.specs.declared.table.KeyItem.{KeyItem}
use Rattle.qt_keys.specs.declared.table.KeyTable.{KeyTable}
use Rattle.qt_keys.proofs.Again.{spelled_as}
use Rattle.qt_keys.proofs.Whole.{is_table}

-- an atom has eight bytes more than its body
atom_length : (id body : List ℕ) → length (spell (atom id body)) ≡ 4 + (length id + length body)
atom_length id body =
    let same = sym (append-nil (spell (atom id body))) ∙ spelled_as id body [] in
    omega (arith, ap length same, length-append (to_be_bytes w32 (length body + 8)) (id ++ (body ++ [])), length-append id (body ++ []), length-append body [])

new_length : (name : List ℕ) → length (spell (entry_atom (new_entry name))) ≡ 8 + length name
new_length name = omega (arith, atom_length (codes "mdta") name)

value_length : (raw : List ℕ) → length (spell_all (map value_atom (raw ∷ []))) ≡ 8 + length raw
value_length raw = omega (arith, length-append (spell (value_atom raw)) [], atom_length (codes "data") raw)

item_length : (index : ℕ) (raw : List ℕ) → length (spell (item_atom (item_of index raw))) ≡ 16 + length raw
item_length index raw = omega (arith, atom_length (to_be_bytes w32 index) (spell_all (map value_atom (raw ∷ []))), value_length raw)

entries_grow : (name : List ℕ) (es : List KeyEntry) → length (spell_all (map entry_atom (with_entry name es))) ≤ length (spell_all (map entry_atom es)) + (8 + length name)
entries_grow name [] = omega (arith, length-append (spell (entry_atom (new_entry name))) [], new_length name)
entries_grow name (e ∷ es) = go (names name e) (entries_grow name es)
  where
    go : (t : Bool) → length (spell_all (map entry_atom (with_entry name es))) ≤ length (spell_all (map entry_atom es)) + (8 + length name)
        → length (spell_all (map entry_atom (cond t (e ∷ es) (e ∷ with_entry name es)))) ≤ length (spell_all (map entry_atom (e ∷ es))) + (8 + length name)
    go true le = omega arith
    go false le = omega (arith, le, length-append (spell (entry_atom e)) (spell_all (map entry_atom es)), length-append (spell (entry_atom e)) (spell_all (map entry_atom (with_entry name es))))

items_grow : (index : ℕ) (raw : List ℕ) (is : List KeyItem) → length (spell_all (map item_atom (with_item index raw is))) ≤ length (spell_all (map item_atom is)) + (16 + length raw)
items_grow index raw [] = omega (arith, length-append (spell (item_atom (item_of index raw))) [], item_length index raw)
items_grow index raw (i ∷ is) = go (i.index == index) (items_grow index raw is)
  where
    go : (t : Bool) → length (spell_all (map item_atom (with_item index raw is))) ≤ length (spell_all (map item_atom is)) + (16 + length raw)
        → length (spell_all (map item_atom (cond t (item_of index raw ∷ is) (i ∷ with_item index raw is)))) ≤ length (spell_all (map item_atom (i ∷ is))) + (16 + length raw)
    go true le = omega (arith, item_length index raw, length-append (spell (item_atom i)) (spell_all (map item_atom is)), length-append (spell (item_atom (item_of index raw))) (spell_all (map item_atom is)))
    go false le = omega (arith, le, length-append (spell (item_atom i)) (spell_all (map item_atom is)), length-append (spell (item_atom i)) (spell_all (map item_atom (with_item index raw is))))

items_shrink : (index : ℕ) (is : List KeyItem) → length (spell_all (map item_atom (without_item index is))) ≤ length (spell_all (map item_atom is))
items_shrink index [] = omega arith
items_shrink index (i ∷ is) = go (i.index == index) (items_shrink index is)
  where
    go : (t : Bool) → length (spell_all (map item_atom (without_item index is))) ≤ length (spell_all (map item_atom is))
        → length (spell_all (map item_atom (cond t is (i ∷ without_item index is)))) ≤ length (spell_all (map item_atom (i ∷ is)))
    go true le = omega (arith, length-append (spell (item_atom i)) (spell_all (map item_atom is)))
    go false le = omega (arith, le, length-append (spell (item_atom i)) (spell_all (map item_atom is)), length-append (spell (item_atom i)) (spell_all (map item_atom (without_item index is))))

-- how much longer children are, where `keys` and `ilst` are so much longer
abbrev grown : ℕ → ℕ → List KeyChild → ℕ
grown a b [] = 0
grown a b (Other bytes ∷ cs) = grown a b cs
grown a b (Keys head es ∷ cs) = a + grown a b cs
grown a b (Items is ∷ cs) = b + grown a b cs

counted : (a b : ℕ) (cs : List KeyChild) → grown a b cs ≡ count_by is_keys cs * a + count_by is_items cs * b
counted a b [] = grind arith
counted a b (c ∷ cs) =
    go c (counted a b cs) ∙ sym (ap (λ (k : ℕ). k * a + count_by is_items (c ∷ cs) * b) (sum_by-cons (λ (x : KeyChild). cond (is_keys x) 1 0) c cs)
    ∙ ap (λ (k : ℕ). (cond (is_keys c) 1 0 + count_by is_keys cs) * a + k * b) (sum_by-cons (λ (x : KeyChild). cond (is_items x) 1 0) c cs))
  where
    go : (d : KeyChild) → grown a b cs ≡ count_by is_keys cs * a + count_by is_items cs * b → grown a b (d ∷ cs) ≡ (cond (is_keys d) 1 0 + count_by is_keys cs) * a + (cond (is_items d) 1 0 + count_by is_items cs) * b
    go (Other bytes) e = grind (arith, e)
    go (Keys head es) e = grind (arith, e)
    go (Items is) e = grind (arith, e)

set_grows : (name : List ℕ) (index : ℕ) (raw : List ℕ) (cs : List KeyChild) → length (flat_map child_bytes (map (child_set name index raw) cs)) ≤ length (flat_map child_bytes cs) + grown (8 + length name) (16 + length raw) cs
set_grows name index raw [] = omega arith
set_grows name index raw (Other bytes ∷ cs) =
    omega (arith, set_grows name index raw cs, length-append bytes (flat_map child_bytes cs), length-append bytes (flat_map child_bytes (map (child_set name index raw) cs)))
set_grows name index raw (Keys head es ∷ cs) =
    let more = with_entry name es in
    let new = Keys head more in
    let old = Keys head es in
    let body = λ (xs : List KeyEntry). to_be_bytes w32 head ++ (to_be_bytes w32 (length xs) ++ spell_all (map entry_atom xs)) in
    omega (
      arith,
      set_grows name index raw cs,
      entries_grow name es,
      length-append (child_bytes old) (flat_map child_bytes cs),
      length-append (child_bytes new) (flat_map child_bytes (map (child_set name index raw) cs)),
      atom_length (codes "keys") (body es),
      atom_length (codes "keys") (body more),
      length-append (to_be_bytes w32 head) (to_be_bytes w32 (length es) ++ spell_all (map entry_atom es)),
      length-append (to_be_bytes w32 (length es)) (spell_all (map entry_atom es)),
      length-append (to_be_bytes w32 head) (to_be_bytes w32 (length more) ++ spell_all (map entry_atom more)),
      length-append (to_be_bytes w32 (length more)) (spell_all (map entry_atom more)),
    )
set_grows name index raw (Items is ∷ cs) =
    let more = with_item index raw is in
    omega (
      arith,
      set_grows name index raw cs,
      items_grow index raw is,
      length-append (child_bytes (Items is)) (flat_map child_bytes cs),
      length-append (child_bytes (Items more)) (flat_map child_bytes (map (child_set name index raw) cs)),
      atom_length (codes "ilst") (spell_all (map item_atom is)),
      atom_length (codes "ilst") (spell_all (map item_atom more)),
    )

removed_shrinks : (index : ℕ) (cs : List KeyChild) → length (flat_map child_bytes (map (child_without index) cs)) ≤ length (flat_map child_bytes cs)
removed_shrinks index [] = omega arith
removed_shrinks index (Other bytes ∷ cs) =
    omega (arith, removed_shrinks index cs, length-append bytes (flat_map child_bytes cs), length-append bytes (flat_map child_bytes (map (child_without index) cs)))
removed_shrinks index (Keys head es ∷ cs) =
    omega (arith, removed_shrinks index cs, length-append (child_bytes (Keys head es)) (flat_map child_bytes cs), length-append (child_bytes (Keys head es)) (flat_map child_bytes (map (child_without index) cs)))
removed_shrinks index (Items is ∷ cs) =
    let left = without_item index is in
    omega (
      arith,
      removed_shrinks index cs,
      items_shrink index is,
      length-append (child_bytes (Items is)) (flat_map child_bytes cs),
      length-append (child_bytes (Items left)) (flat_map child_bytes (map (child_without index) cs)),
      atom_length (codes "ilst") (spell_all (map item_atom is)),
      atom_length (codes "ilst") (spell_all (map item_atom left)),
    )

-- a lawful table has one `keys` and one `ilst`
once : (cs : List KeyChild) → is_lawful cs ≡ true → (count_by is_keys cs ≡ 1) × (count_by is_items cs ≡ 1)
once cs l =
    let each = (and_parts (has_each_once cs) (list_all handles_keys cs) (and_parts (has_each_once cs && list_all handles_keys cs) _ l).0).0 in
    let two = (and_parts (count_by is_handler cs == 1) _ each).1 in
    let both = and_parts (count_by is_keys cs == 1) (count_by is_items cs == 1) two in
    (eqb-true _ _ both.0, eqb-true _ _ both.1)

pub grows : (name : List ℕ) (raw : Option (List ℕ)) (t : KeyTable) → IsRead t → length (table_bytes (with_key name raw t)) ≤ length (table_bytes t) + growth name raw
grows name None t r = omega (arith, removed_shrinks (index_of name (entries_of t)) t.children)
grows name (Some raw) t r =
    let o = once t.children (is_table (table_bytes t) t r.read).lawful in
    let a = 8 + length name in
    let b = 16 + length raw in
    let whole = counted a b t.children ∙ ap (λ (k : ℕ). k * a + count_by is_items t.children * b) o.0 ∙ ap (λ (k : ℕ). 1 * a + k * b) o.1 in
    omega (arith, set_grows name (index_of name (entries_of t)) raw t.children, whole)
