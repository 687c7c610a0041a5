use Rattle.std.proofs.Common.{◌∙◌, ◌≡◌, ap, true, rules}
use Rattle.part_tree.specs.declared.field.Change.TheVariants.{Set}
use Rattle.field_model.specs.KindFacts.{has_field}
use Rattle.field_model.specs.Rules.{text_rule}
use Rattle.fadgi_rules.proofs.Least.{set_rule}
use Rattle.fadgi_rules.proofs.item.item_rule.Goals as goal

pub returns-in-Set : goal.returns-in-Set
returns-in-Set c =
    let i = c.args.item.now in
    let has : has_field c.args.kind c.args.streams i.name ≡ true = search rules in
    let is : i.change ≡ Set c.in-Set.text = search rules in
    c.text_rule.ensures ∙ ap (text_rule i.name) c.as_slice.ensures ∙ set_rule c.args.kind c.args.streams i c.in-Set.text has is
