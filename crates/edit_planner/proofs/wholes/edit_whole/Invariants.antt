use Rattle.std.proofs.Common.{◌≡◌, ◌≤◌, take, length}
use Rattle.bext_fields.specs.Change.{raw_items_of}
use Rattle.wave_model.specs.Carry.{whole_part}
use Rattle.edit_planner.proofs.wholes.edit_whole.Given as goal

-- no change behind the first k is of the field
abbrev pub invariant-changes : goal.invariant-changes
invariant-changes l = record {
  same : l.cells.items ≡ l.fn.cells.items;
  inside : l.k ≤ length l.changes;
  left : whole_part l.word.0 (raw_items_of (take l.k l.changes)) ≡ whole_part l.word.0 (raw_items_of l.changes);
}

abbrev pub decreases-changes : goal.decreases-changes
decreases-changes l = l.k
