use Rattle.std.proofs.Common.{◌≡◌, drop}
use Rattle.part_tree.specs.Fields.{values}
use Rattle.field_model.specs.Broken.{first_found}
use Rattle.fadgi_rules.specs.declared.row.TheConstants.{FIELD_RULES}
use Rattle.fadgi_rules.specs.Findings.{field_findings}
use Rattle.fadgi_rules.proofs.row.first_by_fields.Given as goal

-- the rules from here on decide
abbrev pub invariant-loop-rule : goal.invariant-loop-rule
invariant-loop-rule l = first_found (field_findings (drop l.rule-index FIELD_RULES) l.kind (values l.fields) l.items l.rules) ≡ first_found (field_findings FIELD_RULES l.kind (values l.fields) l.items l.rules)
