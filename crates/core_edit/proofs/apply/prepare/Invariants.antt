use Rattle.std.proofs.Common.{◌≡◌, true}
use Rattle.part_tree.specs.Fields.{values}
use Rattle.field_model.specs.Fields.{version_of}
use Rattle.field_model.specs.Update.{made, needed, raised_values}
use Rattle.bext_fields.specs.Change.{raw_items_of}
use Rattle.core_edit.specs.Updates.{names_bext}
use Rattle.core_edit.proofs.Updated.{AreRaised}
use Rattle.core_edit.proofs.apply.prepare.Given as goal

-- the fields so far are raised
abbrev pub invariant-loop-row : goal.invariant-loop-row
invariant-loop-row l = record {
  version : l.to ≡ needed (raw_items_of l.changes);
  some : names_bext (raw_items_of l.changes) ≡ true;
  raised : AreRaised (values l.fields) (λ field. raised_values l.to (version_of (values l.fields)) field (made (values l.fields) field)) l.row l.new;
}
