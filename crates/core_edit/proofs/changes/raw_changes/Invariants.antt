use Rattle.std.proofs.Common.{◌≡◌, ◌++◌, drop}
use Rattle.std.specs.List.{filter_map}
use Rattle.field_model.specs.Update.{raw_item}
use Rattle.bext_fields.specs.Change.{raw_items_of}
use Rattle.core_edit.proofs.changes.raw_changes.Given as goal

-- the items so far in raw bytes, and those that are left
abbrev pub invariant-loop-item : goal.invariant-loop-item
invariant-loop-item l = raw_items_of l.changes.items ++ filter_map raw_item (drop l.item-index l.items) ≡ filter_map raw_item l.items
