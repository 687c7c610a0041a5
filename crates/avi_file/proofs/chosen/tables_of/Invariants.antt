use Rattle.std.proofs.Common.{◌≡◌, ◌++◌, drop}
use Rattle.avi_file.specs.Chosen.{tables_with}
use Rattle.avi_file.proofs.chosen.tables_of.Given as goal

-- what was taken, and the parts that are left
abbrev pub invariant-parts : goal.invariant-parts
invariant-parts l = l.tables.items ++ tables_with l.id (drop l.part-index l.parts) ≡ tables_with l.id l.parts
