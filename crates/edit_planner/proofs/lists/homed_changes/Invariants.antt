use Rattle.std.proofs.Common.{◌≡◌, ◌++◌, drop}
use Rattle.bext_fields.specs.Change.{raw_items_of}
use Rattle.carrier_model.specs.Lists.{home}
use Rattle.wave_model.specs.Carry.{info_part}
use Rattle.edit_planner.specs.Lists.{all_marks, homed_of}
use Rattle.edit_planner.proofs.lists.homed_changes.Given as goal

abbrev pub invariant-changes : goal.invariant-changes
invariant-changes l =
    l.homed.items ++ homed_of (home (all_marks l.cells)) (info_part (raw_items_of (drop l.change-index l.changes))) ≡ homed_of (home (all_marks l.cells)) (info_part (raw_items_of l.changes))
