use Rattle.std.proofs.Common.{◌≡◌, ◌≤◌, drop}
use Rattle.std.specs.Prelude.{max}
use Rattle.field_model.specs.Update.{needed}
use Rattle.bext_fields.specs.Change.{raw_items_of}
use Rattle.bext_fields.proofs.edit.needed_version.Given as goal

-- the version so far and those that the changes that are left need are the whole
abbrev pub invariant-loop-change : goal.invariant-loop-change
invariant-loop-change l = record {
  whole : max l.version (needed (raw_items_of (drop l.change-index l.changes))) ≡ needed (raw_items_of l.changes);
  small : l.version ≤ 2;
}
