use Rattle.std.proofs.Common.{◌≡◌, drop}
use Rattle.bext_fields.specs.Change.{raw_items_of}
use Rattle.wave_model.specs.Carry.{edits_bext}
use Rattle.edit_planner.proofs.bext.edits.Given as goal

abbrev pub invariant-changes : goal.invariant-changes
invariant-changes l = edits_bext (raw_items_of (drop l.change-index l.changes)) ≡ edits_bext (raw_items_of l.changes)
