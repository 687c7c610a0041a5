-- What the rules on fields find.
use Rattle.std.specs.Prelude.{List, [], ◌∷◌, ◌++◌, map, filter, if◌then◌else◌}
use Rattle.part_tree.specs.declared.field.Broken.{Broken}
use Rattle.part_tree.specs.declared.field.EditItem.{EditItem}
use Rattle.part_tree.specs.declared.field.RuleSet.{RuleSet}
use Rattle.part_tree.specs.declared.names.Kind.{Kind}
use Rattle.field_model.specs.Broken.{chooses}
use Rattle.field_model.specs.Fields.{FieldMap}
use Rattle.field_model.specs.Update.{update}
use Rattle.fadgi_rules.specs.declared.row.FieldRule.{FieldRule}
use Rattle.fadgi_rules.specs.Items.{found}
use Rattle.fadgi_rules.specs.Rows.{number, set_of, fields_of, fails}

-- the fields that break a rule, where its set is chosen
abbrev pub row_findings : FieldRule → Kind → FieldMap → List EditItem → RuleSet → List Broken
row_findings r kind f e sets =
    if chooses sets (set_of r) then map (found (number r)) (filter (fails r (update f e)) (fields_of r kind)) else []

-- the same of some rules, one after the other
abbrev pub field_findings : List FieldRule → Kind → FieldMap → List EditItem → RuleSet → List Broken
field_findings [] kind f e sets = []
field_findings (r ∷ rs) kind f e sets = row_findings r kind f e sets ++ field_findings rs kind f e sets
