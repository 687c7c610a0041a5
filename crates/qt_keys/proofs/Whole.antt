-- A body as a whole: what is no key table, and what is one.
use Rattle.std.proofs.Common.{◌≡◌, ℕ, ◌≤◌, ◌<◌, ◌^◌, Bool, true, false, leb, cond, List, length, refl, sym, ap, ◌∙◌, Option, Some, None}
use Rattle.std.proofs.lemmas.Bool.{leb-true, le-leb, lt-leb}
use Rattle.qt_keys.specs.Read.{child_read, key_table, table_with}
use Rattle.qt_keys.specs.Short.{each}
use Rattle.qt_keys.specs.Table.{is_lawful}
use Rattle.qt_keys.specs.declared.table.KeyChild.{KeyChild}
use Rattle.qt_keys.specs.declared.table.KeyTable.{KeyTable}

pub no_large_table : (b : List ℕ) → 2 ^ 24 < length b → key_table b ≡ None
unfolding key_table
no_large_table b lt = ap (λ (t : Bool). cond t (table_with (each child_read b)) None) (lt-leb (length b) (2 ^ 24) lt)

pub table_by : (b : List ℕ) (o : Option (List KeyChild)) → length b ≤ 2 ^ 24 → each child_read b ≡ o → key_table b ≡ table_with o
unfolding key_table
table_by b o le e = ap (λ (t : Bool). cond t (table_with (each child_read b)) None) (le-leb (length b) (2 ^ 24) le) ∙ ap table_with e

pub lawful_by : (cs : List KeyChild) (t : Bool) → is_lawful cs ≡ t → table_with (Some cs) ≡ cond t (Some (record { children = cs })) None
lawful_by cs t e = ap (λ (u : Bool). cond u (Some (record { children = cs })) None) e

-- what is a table is small, its children are read, and they are lawful
pub record IsTable (b : List ℕ) (t : KeyTable) : Type 0 where
  pub small : length b ≤ 2 ^ 24
  pub read : each child_read b ≡ Some t.children
  pub lawful : is_lawful t.children ≡ true

pub is_table : (b : List ℕ) (t : KeyTable) → key_table b ≡ Some t → IsTable b t
unfolding key_table
is_table b t e = go (leb (length b) (2 ^ 24)) refl (each child_read b) refl e
  where
    lawful : (cs : List KeyChild) (u : Bool) → is_lawful cs ≡ u → length b ≤ 2 ^ 24 → each child_read b ≡ Some cs → cond u (Some (record { children = cs })) None ≡ Some t → IsTable b t
    lawful cs true i le r e = let same : cs ≡ t.children = ap (λ (o : Option KeyTable). elim o [ Some u ↦ u.children | None ↦ cs ]) e in record { small = le; read = r ∙ ap Some same; lawful = ap is_lawful (sym same) ∙ i }
    lawful cs false i le r e = absurd cc

    go : (u : Bool) → leb (length b) (2 ^ 24) ≡ u → (o : Option (List KeyChild)) → each child_read b ≡ o → cond u (table_with o) None ≡ Some t → IsTable b t
    go true i (Some cs) r e = lawful cs (is_lawful cs) refl (leb-true (length b) (2 ^ 24) i) r e
    go true i None r e = absurd cc
    go false i o r e = absurd cc

pub small_table : (b : List ℕ) (t : KeyTable) → key_table b ≡ Some t → length b ≤ 2 ^ 24
small_table b t e = (is_table b t e).small

pub table_is : (b : List ℕ) (t : KeyTable) → IsTable b t → key_table b ≡ Some t
table_is b t h = table_by b (Some t.children) h.small h.read ∙ lawful_by t.children true h.lawful
