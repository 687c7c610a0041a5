use Rattle.std.proofs.Common.{◌≡◌, ◌++◌, drop}
use Rattle.bext_fields.specs.Change.{raw_items_of}
use Rattle.mov_model.specs.Edited.{changed_by}
use Rattle.mov_plan.specs.Users.{changes_of}
use Rattle.edit_planner.proofs.carried.user_changes.Given as goal

abbrev pub invariant-changes : goal.invariant-changes
invariant-changes l = changes_of l.kept.items ++ (changed_by (raw_items_of (drop l.change-index l.changes))).users ≡ (changed_by (raw_items_of l.changes)).users
