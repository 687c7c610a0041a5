use Rattle.std.proofs.Common.{◌≡◌, ◌∙◌, sym, ap, arith, Some, None, get_or}
use Rattle.part_tree.specs.Fields.{values}
use Rattle.field_model.specs.Broken.{first_found}
use Rattle.fadgi_rules.specs.declared.row.TheConstants.{FIELD_RULES}
use Rattle.fadgi_rules.specs.declared.row.FieldRule.TheVariants as row
use Rattle.fadgi_rules.specs.Findings.{row_findings}
use Rattle.fadgi_rules.proofs.Findings.{fields_find, first_here, first_later, rules_over}
use Rattle.fadgi_rules.proofs.row.first_by_fields.Goals as goal

pub returns-in-Some : goal.returns-in-Some
returns-in-Some c =
    let f = values c.args.fields.now in
    let e = c.args.items.now in
    let k = c.loop-rule.rule-index in
    let here : first_found (row_findings (get_or FIELD_RULES k row.History) c.args.kind f e c.args.rules) ≡ Some c.in-Some.broken = sym c.first_of_row.ensures ∙ c.in-Some.is in
    sym (first_here FIELD_RULES k row.History c.args.kind f e c.args.rules c.in-Some.broken c.loop-rule-test.true here)
    ∙ c.loop-rule.invariant ∙ sym (ap first_found (fields_find c.args.kind c.args.streams f e c.args.rules c.requires.fine))

pub loop-rule-preserved : goal.loop-rule-preserved
loop-rule-preserved c =
    let f = values c.args.fields.now in
    let e = c.args.items.now in
    let k = c.loop-rule.rule-index in
    let here : first_found (row_findings (get_or FIELD_RULES k row.History) c.args.kind f e c.args.rules) ≡ None = sym c.first_of_row.ensures ∙ c.in-None.is in
    sym (first_later FIELD_RULES k row.History c.args.kind f e c.args.rules c.loop-rule-test.true here) ∙ c.loop-rule.invariant

pub returns : goal.returns
returns c =
    let f = values c.args.fields.now in
    let e = c.args.items.now in
    let k = c.loop-rule.rule-index in
    sym (ap first_found (rules_over FIELD_RULES k c.args.kind f e c.args.rules (omega (arith, c.loop-rule-test.false))))
    ∙ c.loop-rule.invariant ∙ sym (ap first_found (fields_find c.args.kind c.args.streams f e c.args.rules c.requires.fine))
