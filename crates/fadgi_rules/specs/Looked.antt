-- The names of the fields that a rule looks at.
use Rattle.std.specs.Prelude.{List, map}
use Rattle.part_tree.specs.declared.field.FieldName.{FieldName}
use Rattle.part_tree.specs.declared.field.FieldName.TheVariants as name
use Rattle.fadgi_rules.specs.declared.names.Names.{Names}
use Rattle.fadgi_rules.specs.declared.names.Names.TheVariants as sort

-- the names, in field order
abbrev pub names_of : Names → List FieldName
names_of (sort.Bext fields) = map name.Bext fields.now
names_of (sort.Info ids) = map name.Info ids.now
names_of (sort.User ids) = map name.User ids.now
