-- A row of a table of ranges, and the bytes that it names.
use Rattle.std.specs.Prelude.{◌≡◌, ◌≤◌, ℕ, ◌+◌, List, ◌++◌, length, take, drop, Bool, ◌==◌}
use Rattle.part_tree.specs.declared.field.BextField.{BextField}
use Rattle.part_tree.specs.Names.{bext_row}
use Rattle.field_model.specs.Bext.{form_of, range_at, range_len}
use Rattle.bext_fields.specs.declared.FieldRow.{FieldRow}

-- the row's range lies inside the bytes
abbrev pub IsInside : FieldRow → List ℕ → Type 0
IsInside row bext = row.at + row.len ≤ length bext

-- the bytes of the row's range
abbrev pub bytes_of : FieldRow → List ℕ → List ℕ
bytes_of row bext = take row.len (drop row.at bext)

-- the bytes with others in the row's range
abbrev pub with_bytes : FieldRow → List ℕ → List ℕ → List ℕ
with_bytes row raw bext = take row.at bext ++ (raw ++ drop (row.at + row.len) bext)

-- whether a row is of this field
abbrev pub is_of : BextField → FieldRow → Bool
is_of field row = bext_row row.field == bext_row field

-- a row is the range that the model gives its field, with the field's form
pub record IsModelRow (row : FieldRow) (k : ℕ) : Type 0 where
  pub number : bext_row row.field ≡ k
  pub place : row.at ≡ range_at k 0
  pub size : row.len ≡ range_len k 0
  pub same_form : row.form ≡ form_of row.field
