use Rattle.std.proofs.Common.{◌≡◌, drop, ◌++◌, []}
use Rattle.part_tree.specs.Fields.{values}
use Rattle.fadgi_rules.specs.declared.row.TheConstants.{FIELD_RULES}
use Rattle.fadgi_rules.specs.Findings.{field_findings}
use Rattle.fadgi_rules.proofs.row.all_by_fields.Given as goal

-- what was found, and then what the rules from here on find
abbrev pub invariant-loop-rule : goal.invariant-loop-rule
invariant-loop-rule l = l.found.items ++ field_findings (drop l.rule-index FIELD_RULES) l.kind (values l.fields) [] l.rules ≡ field_findings FIELD_RULES l.kind (values l.fields) [] l.rules
