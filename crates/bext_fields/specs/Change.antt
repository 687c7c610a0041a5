-- A change of a field, as the item that the model knows.
use Rattle.std.specs.Prelude.{List, map}
use Rattle.field_model.specs.Update.{RawItem}
use Rattle.bext_fields.specs.declared.change.RawChange.{RawChange}

-- the item that a change is
abbrev pub raw_item_of : RawChange → RawItem
raw_item_of c = record { name = c.name; value = c.value }

-- the items that some changes are, in order
abbrev pub raw_items_of : List RawChange → List RawItem
raw_items_of changes = map raw_item_of changes
