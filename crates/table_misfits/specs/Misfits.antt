-- The first new place that the rows of a table can't name (this project's own).
use Rattle.std.specs.Prelude.{ℕ, List, [], ◌∷◌, Option, None}
use Rattle.part_tree.specs.Moves.{Move}
use Rattle.part_tree.specs.Tables.{misfit, rows, width}
use Rattle.part_tree.specs.declared.table.TableForm.{TableForm}
use Rattle.container_model.specs.Tests.{or_else}

-- of some rows
abbrev pub misfit_rows : List Move → TableForm → List (List ℕ) → Option ℕ
misfit_rows ms form [] = None
misfit_rows ms form (r ∷ rs) = or_else (misfit ms form r) (misfit_rows ms form rs)

-- of the first n rows of some bytes
abbrev pub misfits : List Move → TableForm → ℕ → List ℕ → Option ℕ
misfits ms form n b = misfit_rows ms form (rows (width form) n b)
