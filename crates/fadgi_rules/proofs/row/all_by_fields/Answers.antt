use Rattle.std.proofs.Common.{◌≡◌, ◌∙◌, ◌+◌, ◌++◌, [], List, sym, ap, arith, drop, get_or, rules, append_assoc}
use Rattle.std.proofs.lemmas.List.{append-nil}
use Rattle.part_tree.specs.declared.field.Broken.{Broken}
use Rattle.part_tree.specs.Fields.{values}
use Rattle.fadgi_rules.specs.declared.row.TheConstants.{FIELD_RULES}
use Rattle.fadgi_rules.specs.declared.row.FieldRule.TheVariants as row
use Rattle.fadgi_rules.specs.Findings.{row_findings, field_findings}
use Rattle.fadgi_rules.proofs.Findings.{fields_find, empty_fine, rules_next, rules_over}
use Rattle.fadgi_rules.proofs.row.all_by_fields.Goals as goal

pub loop-rule-preserved : goal.loop-rule-preserved
loop-rule-preserved c =
    let f = values c.args.fields.now in
    let k = c.loop-rule.rule-index in
    let here : List Broken = row_findings (get_or FIELD_RULES k row.History) c.args.kind f [] c.args.rules in
    let rest : List Broken = field_findings (drop (k + 1) FIELD_RULES) c.args.kind f [] c.args.rules in
    let pushed : c.push_row.new.found.items ≡ c.loop-rule.found.items ++ here = search rules in
    ap (λ (bs : List Broken). bs ++ rest) pushed ∙ append_assoc c.loop-rule.found.items here rest
    ∙ ap (λ (bs : List Broken). c.loop-rule.found.items ++ bs) (sym (rules_next FIELD_RULES k row.History c.args.kind f [] c.args.rules c.loop-rule-test.true)) ∙ c.loop-rule.invariant

pub returns : goal.returns
returns c = λ streams.
    let f = values c.args.fields.now in
    let k = c.loop-rule.rule-index in
    sym (append-nil c.loop-rule.found.items)
    ∙ sym (ap (λ (bs : List Broken). c.loop-rule.found.items ++ bs) (rules_over FIELD_RULES k c.args.kind f [] c.args.rules (omega (arith, c.loop-rule-test.false))))
    ∙ c.loop-rule.invariant ∙ sym (fields_find c.args.kind streams f [] c.args.rules (empty_fine c.args.kind streams f))
