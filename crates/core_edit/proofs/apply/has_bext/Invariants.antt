use Rattle.std.proofs.Common.{◌≡◌, drop}
use Rattle.bext_fields.specs.Change.{raw_items_of}
use Rattle.core_edit.specs.Updates.{names_bext}
use Rattle.core_edit.proofs.apply.has_bext.Given as goal

-- the changes from here on decide
abbrev pub invariant-loop-change : goal.invariant-loop-change
invariant-loop-change l = names_bext (raw_items_of (drop l.change-index l.changes)) ≡ names_bext (raw_items_of l.changes)
