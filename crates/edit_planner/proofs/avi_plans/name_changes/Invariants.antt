use Rattle.std.proofs.Common.{◌≡◌, ◌++◌, drop}
use Rattle.bext_fields.specs.Change.{raw_items_of}
use Rattle.edit_planner.specs.AviPlaces.{names_in}
use Rattle.avi_plan.specs.Streams.{told}
use Rattle.edit_planner.proofs.avi_plans.name_changes.Given as goal

-- the names so far, and those of the changes that are left
abbrev pub invariant-changes : goal.invariant-changes
invariant-changes l = told l.names.items ++ names_in (raw_items_of (drop l.change-index l.changes)) ≡ names_in (raw_items_of l.changes)
