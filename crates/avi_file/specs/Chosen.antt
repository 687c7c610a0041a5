-- The parts that are tables.
use Rattle.std.specs.Prelude.{ℕ, List, Bool, true, false, ◌&&◌}
use Rattle.std.specs.Str.{bytes_eq}
use Rattle.part_tree.specs.declared.names.Span.{Span}
use Rattle.part_tree.specs.declared.part.Part.{Part}
use Rattle.part_tree.specs.declared.part.Role.{Role}
use Rattle.part_tree.specs.declared.part.Role.TheVariants.{Tables}
use Rattle.avi_file.specs.Walk.{chosen}

-- a table
abbrev pub is_tables : Role → Bool
is_tables Tables = true
is_tables _ = false

-- the bodies of the tables with an identifier
abbrev pub tables_with : List ℕ → List Part → List Span
tables_with id ps = chosen (λ p. is_tables p.role && bytes_eq p.id.0 id) ps
