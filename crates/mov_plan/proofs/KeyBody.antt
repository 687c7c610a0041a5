-- The body of a new key table.
use Rattle.std.proofs.Common.{◌≡◌, ◌∙◌, ℕ, List, sym, ap, arith, Option, Some, None}
use Rattle.mov_model.specs.Keys.{new_table}
use Rattle.mov_model.proofs.Keys.{new_well}
use Rattle.qt_keys.proofs.Again.{well_again}
use Rattle.qt_keys.specs.Read.{key_table}
use Rattle.qt_keys.specs.Table.{table_bytes}
use Rattle.qt_keys.specs.declared.table.KeyTable.{KeyTable}

-- the bytes of a table that is new
pub new_read : (b : List ℕ) → b ≡ table_bytes new_table → key_table b ≡ Some new_table
new_read b is = ap key_table is ∙ well_again new_table new_well (omega arith)

some_is : {A : Type 0} (x y : A) → Some x ≡ Some y → x ≡ y
some_is x y e = ap (λ (o : Option _). elim o [ Some z ↦ z | None ↦ x ]) e

-- what is read of them
pub new_found : (b : List ℕ) (t : KeyTable) (found : Option KeyTable) → found ≡ key_table b → found ≡ Some t → b ≡ table_bytes new_table → t ≡ new_table
new_found b t found read some is = some_is t new_table (sym some ∙ read ∙ new_read b is)
