-- The rows of the tables of an AVI file as a plan moves them.
use Rattle.std.specs.Prelude.{ℕ}
use Rattle.part_tree.specs.declared.table.Base.TheVariants.{Movi, FileStart}
use Rattle.part_tree.specs.declared.table.TableForm.{TableForm}
use Rattle.part_tree.specs.declared.table.TableForm.TheVariants.{Idx1}
use Rattle.avi_index.specs.Rows.{Base, from_start, from_movi}

-- idx1, whose first movi stands at a place, as a table whose places move
abbrev pub old_form : ℕ → Base → TableForm
old_form movi from_start = Idx1 FileStart
old_form movi from_movi = Idx1 (Movi movi)
