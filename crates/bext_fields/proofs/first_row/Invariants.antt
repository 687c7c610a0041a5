use Rattle.std.proofs.Common.{◌≡◌, ◌<◌, ℕ, false, get_or}
use Rattle.bext_fields.specs.declared.FieldRow.{FieldRow}
use Rattle.bext_fields.specs.Table.{is_of}
use Rattle.bext_fields.proofs.first_row.Given as goal

-- none of the rows so far is of the field
abbrev pub invariant-loop-row : goal.invariant-loop-row
invariant-loop-row l = record {
  count : l.k ≡ l.row-index;
  before : (j : ℕ) (d : FieldRow) → j < l.row-index → is_of l.field (get_or l.rows j d) ≡ false;
}
