-- What the model of AVI files tests of a table's entries (as `avi_model` has it).
use Rattle.std.specs.Prelude.{ℕ, List}
use Rattle.avi_index.specs.Rows.{Base}
use Rattle.avi_model.specs.Large.{Check, index_checks, old_checks}
use Rattle.avi_plan.specs.Tables.{Tabled, index, old}

abbrev pub table_checks : (ℕ → ℕ) → Base → Tabled → List Check
table_checks f base (old t) = old_checks f base t
table_checks f base (index t) = index_checks f t
