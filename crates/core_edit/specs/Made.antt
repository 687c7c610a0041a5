-- What a new edit answers.
use Rattle.std.specs.Prelude.{◌≡◌, List, Some, None, Result, Ok, Err}
use Rattle.part_tree.specs.declared.field.EditItem.{EditItem}
use Rattle.core_edit.specs.declared.edit.EditFault.{EditFault}
use Rattle.core_edit.specs.declared.edit.EditFault.TheVariants.{Twice, Empty, Memory}
use Rattle.core_edit.specs.Edits.{wrong, twice, empty}

-- the items where none is faulty, or the first fault
abbrev pub MakesEdit : List EditItem → Result (List EditItem) EditFault → Type 0
MakesEdit items (Ok edit) = (edit ≡ items) × (wrong items ≡ None)
MakesEdit items (Err (Twice n)) = wrong items ≡ Some (twice n)
MakesEdit items (Err (Empty n)) = wrong items ≡ Some (empty n)
MakesEdit items (Err Memory) = Unit {0}
