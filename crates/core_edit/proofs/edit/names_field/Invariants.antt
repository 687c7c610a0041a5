use Rattle.std.proofs.Common.{◌≡◌, drop}
use Rattle.core_edit.specs.Edits.{names_one}
use Rattle.core_edit.proofs.edit.names_field.Given as goal

-- the items from here on decide
abbrev pub invariant-loop-item : goal.invariant-loop-item
invariant-loop-item l = names_one l.name (drop l.item-index l.items) ≡ names_one l.name l.items
