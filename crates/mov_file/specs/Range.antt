-- A fault that refuses no file.
use Rattle.std.specs.Prelude.{⊤}
use Rattle.part_tree.specs.declared.why.ReadFault.{ReadFault}
use Rattle.part_tree.specs.declared.why.ReadFault.TheVariants.{Why, Depot, Memory}

-- the depot or the memory failed
abbrev pub IsNoWhy : ReadFault → Type 0
IsNoWhy (Why w) = ⊥
IsNoWhy Depot = ⊤
IsNoWhy Memory = ⊤
