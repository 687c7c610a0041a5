-- The edit of a WAVE file that is made (this project's own).
use Rattle.std.specs.Prelude.{List, [], ◌∷◌, codes}
use Rattle.part_tree.specs.Letters.{four}
use Rattle.part_tree.specs.declared.field.Change.TheVariants.{Set}
use Rattle.part_tree.specs.declared.field.EditItem.{EditItem}
use Rattle.part_tree.specs.declared.field.FieldName.TheVariants.{Info}

-- its title is set
abbrev pub set_title : List EditItem
set_title = record { name = Info (four (codes "INAM")); change = Set (codes "Made") } ∷ []
