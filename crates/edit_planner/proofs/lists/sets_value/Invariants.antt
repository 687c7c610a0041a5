use Rattle.std.proofs.Common.{◌≡◌, drop}
use Rattle.carrier_model.specs.Lists.{sets_some}
use Rattle.info_list.specs.Changes.{changes_of}
use Rattle.edit_planner.proofs.lists.sets_value.Given as goal

abbrev pub invariant-changes : goal.invariant-changes
invariant-changes l = sets_some (changes_of (drop l.change-index l.part)) ≡ sets_some (changes_of l.part)
