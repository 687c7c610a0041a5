use Rattle.std.proofs.Common.{◌≡◌, ◌++◌, drop, filter}
use Rattle.part_tree.specs.Fields.{values}
use Rattle.field_model.specs.Update.{has_effect}
use Rattle.core_edit.proofs.edit.effective.Given as goal

-- the items kept so far, and those that are left
abbrev pub invariant-loop-item : goal.invariant-loop-item
invariant-loop-item l = l.kept.items ++ filter (has_effect (values l.fields)) (drop l.item-index l.items) ≡ filter (has_effect (values l.fields)) l.items
