use Rattle.std.proofs.Common.{◌≡◌, ◌++◌, drop}
use Rattle.info_list.specs.Changes.{changes_of}
use Rattle.edit_planner.specs.Lists.{part_in}
use Rattle.edit_planner.proofs.lists.part_for.Given as goal

abbrev pub invariant-changes : goal.invariant-changes
invariant-changes l = changes_of l.part.items ++ part_in l.n (drop l.change-index l.homed) ≡ part_in l.n l.homed
