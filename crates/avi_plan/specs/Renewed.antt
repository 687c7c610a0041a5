-- A table of an AVI file with its numbers changed, as a span of the file that is replaced (as `avi_model` has it).
use Rattle.std.specs.Prelude.{◌≤◌, ◌<◌, ◌⊎◌, ℕ, ◌+◌, List, length}
use Rattle.container_model.specs.Splice.{Cut}
use Rattle.avi_index.specs.Rows.{Base, old_body}
use Rattle.opendml_index.specs.Index.{How, index_body}
use Rattle.unit_plan.specs.declared.cut.CutAt.{CutAt}
use Rattle.avi_plan.specs.Tables.{Tabled, index, old, table_of}

-- its body
abbrev pub new_body : How → Base → Tabled → List ℕ
new_body h base (old t) = old_body h.place base t.body
new_body h base (index t) = index_body h t.body

-- the span
abbrev pub table_cut : How → Base → Tabled → Cut
table_cut h base x = record { at = (table_of x).at; len = length (table_of x).body; bytes = new_body h base x }

-- where a table ends
abbrev pub stop_of : Tabled → ℕ
stop_of x = (table_of x).at + length (table_of x).body

-- a span stands behind a table, or before it
abbrev pub IsClear : CutAt → Tabled → Type 0
IsClear k x = (stop_of x ≤ k.span.at) ⊎ ((k.span.at < (table_of x).at) × (k.span.at + k.span.len ≤ (table_of x).at))
