use Rattle.std.proofs.Common.{sym, ◌∙◌}
use Rattle.std.proofs.lemmas.Bool.{ltb-true}
use Rattle.part_tree.proofs.Rules.{zero_has_none, past_the_last}
use Rattle.part_tree.proofs.field.rule_name.Goals.{then-rule-eq0, else-rule-eq0}
use Rattle.part_tree.proofs.field.rule_name.Goals as goal

-- src/field.rt:345:13
pub returns-after-rule-eq0 : goal.returns-after-rule-eq0
returns-after-rule-eq0 c =
    elim c.if-rule-eq0.branch [
      | then-rule-eq0 w ↦ zero_has_none c.args.rule w.if-rule-eq0.true
      | else-rule-eq0 w ↦ past_the_last c.args.rule (ltb-true 24 c.args.rule (sym w.outside-is ∙ c.if-prove.false))
    ]
