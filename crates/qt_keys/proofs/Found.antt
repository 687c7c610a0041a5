-- A key table that is read is well.
use Rattle.std.proofs.Common.{◌≡◌, ℕ, ◌≤◌, ◌<◌, ◌^◌, Bool, true, false, leb, cond, List, [], ◌∷◌, length, take, drop, refl, subst, Option, Some, None, arith}
use Rattle.std.specs.Prelude.{codes, ◌&&◌, ◌==◌}
use Rattle.std.specs.Int.{from_be_bytes, w32}
use Rattle.std.proofs.lemmas.Bool.{leb-true}
use Rattle.me_bytes.specs.Bytes.{IsBytes}
use Rattle.container_model.proofs.Codec.{IsBytes-drop}
use Rattle.container_model.proofs.Fronts.{IsBytes-take}
use Rattle.container_model.specs.Atoms.{is}
use Rattle.container_model.specs.Chunk.{Chunk}
use Rattle.qt_keys.specs.Read.{child_by, child_read, entry_read, item_read, item_with, items_read, key_table, keys_read, keys_with, value_read}
use Rattle.qt_keys.specs.Short.{each}
use Rattle.qt_keys.specs.declared.table.KeyChild.{KeyChild}
use Rattle.qt_keys.specs.declared.table.KeyChild.TheVariants.{Keys}
use Rattle.qt_keys.specs.declared.table.KeyEntry.{KeyEntry}
use Rattle.qt_keys.specs.declared.table.KeyItem.{KeyItem}
use Rattle.qt_keys.specs.declared.table.KeyTable.{KeyTable}
use Rattle.qt_keys.proofs.Again.{Well, WellChild, WellEntry, WellItem}
use Rattle.qt_keys.proofs.Back.{some_is}
use Rattle.qt_keys.proofs.Spelled.{IsAtom, all_have}
use Rattle.qt_keys.proofs.Whole.{is_table}

number_small : (b : List ℕ) → IsBytes b → from_be_bytes w32 b < 2 ^ 32
number_small b fits = omega (arith, fits 0, fits 1, fits 2, fits 3)

entry_well : (c : Chunk) (e : KeyEntry) → IsAtom c → entry_read c ≡ Some e → WellEntry e
entry_well c e a r = subst WellEntry (some_is _ e r) a.four

value_long : (c : Chunk) (v : List ℕ) → IsAtom c → value_read c ≡ Some v → 8 ≤ length v
value_long c v a r = go (is c (codes "data")) (leb 8 (length c.body)) refl r
  where
    go : (t u : Bool) → leb 8 (length c.body) ≡ u → cond (t && u) (Some c.body) None ≡ Some v → 8 ≤ length v
    go true true i e = subst (λ (x : List ℕ). 8 ≤ length x) (some_is c.body v e) (leb-true 8 (length c.body) i)
    go true false i e = absurd cc
    go false u i e = absurd cc

item_well : (c : Chunk) (i : KeyItem) → IsAtom c → item_read c ≡ Some i → WellItem i
item_well c i a r = go (each value_read c.body) refl r
  where
    go : (o : Option (List (List ℕ))) → each value_read c.body ≡ o → item_with c o ≡ Some i → WellItem i
    go None e f = absurd cc
    go (Some []) e f = absurd cc
    go (Some (v ∷ vs)) e f = subst WellItem (some_is _ i f) (all_have value_read (λ w. 8 ≤ length w) value_long c.body (v ∷ vs) a.bytes e)

child_well : (c : Chunk) (x : KeyChild) → IsAtom c → child_read c ≡ Some x → WellChild x
child_well c x a r = go (is c (codes "keys")) (is c (codes "ilst")) refl refl r
  where
    entries : (o : Option (List KeyEntry)) → each entry_read (drop 8 c.body) ≡ o → keys_with c.body o ≡ Some x → WellChild x
    entries None e f = absurd cc
    entries (Some es) e f = counted (length es == from_be_bytes w32 (take 4 (drop 4 c.body))) f
      where
        counted : (t : Bool) → cond t (Some (Keys (from_be_bytes w32 (take 4 c.body)) es)) None ≡ Some x → WellChild x
        counted true g = subst WellChild (some_is _ x g) (number_small (take 4 c.body) (IsBytes-take 4 c.body a.bytes), all_have entry_read WellEntry entry_well (drop 8 c.body) es (IsBytes-drop 8 c.body a.bytes) e)
        counted false g = absurd cc

    long : (t : Bool) → keys_read c.body t ≡ Some x → WellChild x
    long true f = entries (each entry_read (drop 8 c.body)) refl f
    long false f = absurd cc

    items : (o : Option (List KeyItem)) → each item_read c.body ≡ o → items_read o ≡ Some x → WellChild x
    items None e f = absurd cc
    items (Some is) e f = subst WellChild (some_is _ x f) (all_have item_read WellItem item_well c.body is a.bytes e)

    go : (t u : Bool) → is c (codes "keys") ≡ t → is c (codes "ilst") ≡ u → child_by c t u ≡ Some x → WellChild x
    go true u i j f = long (leb 8 (length c.body)) f
    go false true i j f = items (each item_read c.body) refl f
    go false false i j f = subst WellChild (some_is _ x f) (record { chunk = c; spelled = refl; is = a.is; four = a.four; no_keys = i; no_items = j })

pub read_well : (b : List ℕ) (t : KeyTable) → IsBytes b → key_table b ≡ Some t → Well t
read_well b t h e =
    let r = is_table b t e in
    record { children = all_have child_read WellChild child_well b t.children h r.read; lawful = r.lawful }
