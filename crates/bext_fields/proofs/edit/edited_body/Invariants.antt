use Rattle.std.proofs.Common.{◌≡◌, ◌≤◌, drop, length}
use Rattle.field_model.specs.Body.{FitBext, edited_bext, lay_items}
use Rattle.bext_fields.specs.Change.{raw_items_of}
use Rattle.bext_fields.proofs.edit.edited_body.Given as goal

-- what the changes that are left make of the body is the whole
abbrev pub invariant-loop-change : goal.invariant-loop-change
invariant-loop-change l = record {
  long : 602 ≤ length l.bext.items;
  fit : FitBext (raw_items_of (drop l.change-index l.changes));
  whole : lay_items (raw_items_of (drop l.change-index l.changes)) l.bext.items ≡ edited_bext (raw_items_of l.changes) l.body;
}
