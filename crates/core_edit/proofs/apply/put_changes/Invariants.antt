use Rattle.std.proofs.Common.{◌≡◌, drop}
use Rattle.part_tree.specs.declared.field.FieldName.{FieldName}
use Rattle.part_tree.specs.Fields.{values}
use Rattle.field_model.specs.Update.{updated_values}
use Rattle.bext_fields.specs.Change.{raw_items_of}
use Rattle.core_edit.specs.Edits.{AreOfFields}
use Rattle.core_edit.proofs.apply.put_changes.Given as goal

-- what the changes that are left make of the fields is the whole
abbrev pub invariant-loop-change : goal.invariant-loop-change
invariant-loop-change l = record {
  names : AreOfFields (raw_items_of (drop l.change-index l.changes));
  whole : (name : FieldName) → updated_values (raw_items_of (drop l.change-index l.changes)) name (values l.new name) ≡ updated_values (raw_items_of l.changes) name (values l.fn.new name);
}
