-- A change of a list's items, as the item of an edit.
use Rattle.std.specs.Prelude.{ℕ, List, map}
use Rattle.container_model.specs.Items.{Item}
use Rattle.info_list.specs.declared.edit.InfoChange.{InfoChange}

-- the item of an edit that a change is
abbrev pub change_of : InfoChange → Item (List ℕ)
change_of c = record { name = c.id.0; value = c.value }

-- the edit that some changes are, in order
abbrev pub changes_of : List InfoChange → List (Item (List ℕ))
changes_of changes = map change_of changes
