-- What an edit does to a name: the change of the item that names it and has an effect.
use Rattle.std.specs.Prelude.{◌≡◌, ℕ, List, [], ◌∷◌, ◌&&◌, if◌then◌else◌, Option, Some, None}
use Rattle.part_tree.specs.declared.field.Change.{Change}
use Rattle.part_tree.specs.declared.field.EditItem.{EditItem}
use Rattle.part_tree.specs.declared.field.FieldName.{FieldName}
use Rattle.part_tree.specs.declared.field.RuleSet.TheVariants.{Base}
use Rattle.part_tree.specs.declared.names.Kind.{Kind}
use Rattle.part_tree.specs.Names.{same_name}
use Rattle.field_model.specs.Broken.{broken}
use Rattle.field_model.specs.Fields.{FieldMap}
use Rattle.field_model.specs.Update.{has_effect}

-- the change of the first such item
abbrev pub change_in : FieldMap → List EditItem → FieldName → Option Change
change_in f [] name = None
change_in f (item ∷ e) name =
    if same_name item.name name && has_effect f item then Some item.change else change_in f e name

-- no item with an effect breaks one of the rules 1 to 13
abbrev pub IsFine : FieldMap → List EditItem → Type 0
IsFine f e = (kind : Kind) × (streams : ℕ) × (broken kind streams f e Base ≡ None)
