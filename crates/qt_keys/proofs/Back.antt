-- A key table that is read is spelled as it stood.
use Rattle.std.proofs.Common.{◌≡◌, ℕ, ◌≤◌, Bool, true, false, leb, cond, List, [], ◌∷◌, ◌++◌, length, map, take, drop, refl, sym, ap, subst, ◌∙◌, arith, Option, Some, None, length-drop}
use Rattle.std.specs.Prelude.{codes, ◌&&◌, ◌==◌}
use Rattle.std.specs.Int.{from_be_bytes, to_be_bytes, w32}
use Rattle.std.proofs.lemmas.Bool.{eqb-true, leb-true}
use Rattle.std.proofs.lemmas.List.{length-take-le, take-append-drop}
use Rattle.std.proofs.lemmas.Nat.{be_bytes_4}
use Rattle.me_bytes.specs.Bytes.{IsBytes}
use Rattle.container_model.proofs.Codec.{IsBytes-drop}
use Rattle.container_model.proofs.Fronts.{IsBytes-take}
use Rattle.container_model.proofs.Items.{same_true}
use Rattle.container_model.specs.Atoms.{atom, is}
use Rattle.container_model.specs.Chunk.{Chunk, spell, spell_all}
use Rattle.qt_keys.specs.Read.{IsRead, child_by, child_read, entry_read, item_read, item_with, items_read, key_table, keys_read, keys_with, value_read}
use Rattle.qt_keys.specs.Short.{each}
use Rattle.qt_keys.specs.Table.{child_bytes, entry_atom, item_atom, table_bytes, value_atom}
use Rattle.qt_keys.specs.declared.table.KeyChild.{KeyChild}
use Rattle.qt_keys.specs.declared.table.KeyChild.TheVariants.{Keys}
use Rattle.qt_keys.specs.declared.table.KeyEntry.{KeyEntry}
use Rattle.qt_keys.specs.declared.table.KeyItem.{KeyItem}
use Rattle.qt_keys.specs.declared.table.KeyTable.{KeyTable}
use Rattle.qt_keys.proofs.Pieces.{spelled_pieces}
use Rattle.qt_keys.proofs.Spelled.{IsAtom, spelled_back}
use Rattle.qt_keys.proofs.Whole.{is_table}

pub some_is : {A : Type 0} (x y : A) → Some x ≡ Some y → x ≡ y
some_is x y e = ap (λ (o : Option _). elim o [ Some z ↦ z | None ↦ x ]) e

entry_back : (c : Chunk) (e : KeyEntry) → IsAtom c → entry_read c ≡ Some e → spell (entry_atom e) ≡ spell c
entry_back c e a r = let same = some_is _ e r in ap (λ (x : KeyEntry). spell (entry_atom x)) (sym same) ∙ ap spell (sym a.is)

value_back : (c : Chunk) (v : List ℕ) → IsAtom c → value_read c ≡ Some v → spell (value_atom v) ≡ spell c
value_back c v a r = go (is c (codes "data")) (leb 8 (length c.body)) refl r
  where
    go : (t u : Bool) → is c (codes "data") ≡ t → cond (t && u) (Some c.body) None ≡ Some v → spell (value_atom v) ≡ spell c
    go true true i e = ap (λ (x : List ℕ). spell (value_atom x)) (sym (some_is c.body v e)) ∙ ap (λ (x : List ℕ). spell (atom x c.body)) (sym (same_true c.id (codes "data") i)) ∙ ap spell (sym a.is)
    go true false i e = absurd cc
    go false u i e = absurd cc

pub values_back : (b : List ℕ) (vs : List (List ℕ)) → IsBytes b → each value_read b ≡ Some vs → spell_all (map value_atom vs) ≡ b
values_back b vs h e = spelled_pieces value_atom vs ∙ spelled_back value_read (λ v. spell (value_atom v)) value_back b vs h e

pub entries_back : (b : List ℕ) (es : List KeyEntry) → IsBytes b → each entry_read b ≡ Some es → spell_all (map entry_atom es) ≡ b
entries_back b es h e = spelled_pieces entry_atom es ∙ spelled_back entry_read (λ x. spell (entry_atom x)) entry_back b es h e

item_back : (c : Chunk) (i : KeyItem) → IsAtom c → item_read c ≡ Some i → spell (item_atom i) ≡ spell c
item_back c i a r = go (each value_read c.body) refl r
  where
    go : (o : Option (List (List ℕ))) → each value_read c.body ≡ o → item_with c o ≡ Some i → spell (item_atom i) ≡ spell c
    go None e f = absurd cc
    go (Some []) e f = absurd cc
    go (Some (v ∷ vs)) e f =
        let same = some_is _ i f in
        let index : to_be_bytes w32 (from_be_bytes w32 c.id) ≡ c.id = be_bytes_4 c.id _ a.four a.letters refl in
        ap (λ (x : KeyItem). spell (item_atom x)) (sym same)
        ∙ ap (λ (x : List ℕ). spell (atom x (spell_all (map value_atom (v ∷ vs))))) index
        ∙ ap (λ (x : List ℕ). spell (atom c.id x)) (values_back c.body (v ∷ vs) a.bytes e) ∙ ap spell (sym a.is)

pub items_back : (b : List ℕ) (is : List KeyItem) → IsBytes b → each item_read b ≡ Some is → spell_all (map item_atom is) ≡ b
items_back b is h e = spelled_pieces item_atom is ∙ spelled_back item_read (λ x. spell (item_atom x)) item_back b is h e

-- version and flags, the count, and the entries
keys_body : (b : List ℕ) (es : List KeyEntry) → IsBytes b → 8 ≤ length b → each entry_read (drop 8 b) ≡ Some es → length es ≡ from_be_bytes w32 (take 4 (drop 4 b))
    → to_be_bytes w32 (from_be_bytes w32 (take 4 b)) ++ (to_be_bytes w32 (length es) ++ spell_all (map entry_atom es)) ≡ b
keys_body b es h le e n =
    let head : to_be_bytes w32 (from_be_bytes w32 (take 4 b)) ≡ take 4 b = be_bytes_4 (take 4 b) _ (length-take-le 4 b (omega (arith, le))) (IsBytes-take 4 b h) refl in
    let count : to_be_bytes w32 (length es) ≡ take 4 (drop 4 b) = be_bytes_4 (take 4 (drop 4 b)) (length es) (length-take-le 4 (drop 4 b) (omega (arith, le, length-drop 4 b))) (IsBytes-take 4 (drop 4 b) (IsBytes-drop 4 b h)) n in
    ap (λ (x : List ℕ). x ++ (to_be_bytes w32 (length es) ++ spell_all (map entry_atom es))) head
    ∙ ap (λ (x : List ℕ). take 4 b ++ (x ++ spell_all (map entry_atom es))) count
    ∙ ap (λ (x : List ℕ). take 4 b ++ (take 4 (drop 4 b) ++ x)) (entries_back (drop 8 b) es (IsBytes-drop 8 b h) e ∙ sym (Rattle.std.proofs.lemmas.List.drop-drop 4 4 b))
    ∙ ap (λ (x : List ℕ). take 4 b ++ x) (take-append-drop 4 (drop 4 b)) ∙ take-append-drop 4 b

child_back : (c : Chunk) (x : KeyChild) → IsAtom c → child_read c ≡ Some x → child_bytes x ≡ spell c
child_back c x a r = go (is c (codes "keys")) (is c (codes "ilst")) refl refl r
  where
    entries : (o : Option (List KeyEntry)) → each entry_read (drop 8 c.body) ≡ o → 8 ≤ length c.body → is c (codes "keys") ≡ true → keys_with c.body o ≡ Some x → child_bytes x ≡ spell c
    entries None e le i f = absurd cc
    entries (Some es) e le i f = counted (length es == from_be_bytes w32 (take 4 (drop 4 c.body))) refl f
      where
        counted : (t : Bool) → (length es == from_be_bytes w32 (take 4 (drop 4 c.body))) ≡ t → cond t (Some (Keys (from_be_bytes w32 (take 4 c.body)) es)) None ≡ Some x → child_bytes x ≡ spell c
        counted true n g =
            ap child_bytes (sym (some_is _ x g)) ∙ ap (λ (b : List ℕ). spell (atom (codes "keys") b)) (keys_body c.body es a.bytes le e (eqb-true _ _ n))
            ∙ ap (λ (k : List ℕ). spell (atom k c.body)) (sym (same_true c.id (codes "keys") i)) ∙ ap spell (sym a.is)
        counted false n g = absurd cc

    long : (t : Bool) → leb 8 (length c.body) ≡ t → is c (codes "keys") ≡ true → keys_read c.body t ≡ Some x → child_bytes x ≡ spell c
    long true l i f = entries (each entry_read (drop 8 c.body)) refl (leb-true 8 (length c.body) l) i f
    long false l i f = absurd cc

    items : (o : Option (List KeyItem)) → each item_read c.body ≡ o → is c (codes "ilst") ≡ true → items_read o ≡ Some x → child_bytes x ≡ spell c
    items None e i f = absurd cc
    items (Some is) e i f =
        ap child_bytes (sym (some_is _ x f)) ∙ ap (λ (b : List ℕ). spell (atom (codes "ilst") b)) (items_back c.body is a.bytes e)
        ∙ ap (λ (k : List ℕ). spell (atom k c.body)) (sym (same_true c.id (codes "ilst") i)) ∙ ap spell (sym a.is)

    go : (t u : Bool) → is c (codes "keys") ≡ t → is c (codes "ilst") ≡ u → child_by c t u ≡ Some x → child_bytes x ≡ spell c
    go true u i j f = long (leb 8 (length c.body)) refl i f
    go false true i j f = items (each item_read c.body) refl j f
    go false false i j f = ap child_bytes (sym (some_is _ x f))

pub table_back : (b : List ℕ) (t : KeyTable) → IsBytes b → key_table b ≡ Some t → table_bytes t ≡ b
table_back b t h e = spelled_back child_read child_bytes child_back b t.children h (is_table b t e).read

-- a body is the spelling of at most one table that is read
pub one_table : (a b : List ℕ) (t u : KeyTable) → IsBytes a → IsBytes b → key_table a ≡ Some t → key_table b ≡ Some u → table_bytes t ≡ table_bytes u → t ≡ u
one_table a b t u ha hb e f same =
    some_is t u (sym e ∙ ap key_table (sym (table_back a t ha e) ∙ same ∙ table_back b u hb f) ∙ f)

-- a table that was read of bytes is one that is read
pub is_read : (b : List ℕ) (t : KeyTable) → IsBytes b → key_table b ≡ Some t → IsRead t
is_read b t h e =
    let same = table_back b t h e in
    record { bytes = subst IsBytes (sym same) h; read = ap key_table same ∙ e }
