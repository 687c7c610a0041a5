-- Letters.
use Rattle.std.specs.Prelude.{ℕ, List}
use Rattle.part_tree.specs.declared.names.FourCc.{FourCc}

-- the name of these letters
abbrev pub four : List ℕ → FourCc
four id = record { 0 = id }
