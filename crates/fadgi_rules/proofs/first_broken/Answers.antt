use Rattle.std.proofs.Common.{◌≡◌, ◌∙◌, List, sym, ap, Some}
use Rattle.part_tree.specs.declared.field.EditItem.{EditItem}
use Rattle.part_tree.specs.declared.field.RuleSet.TheVariants.{Base}
use Rattle.part_tree.specs.Fields.{values}
use Rattle.field_model.specs.Broken.{broken}
use Rattle.fadgi_rules.proofs.Findings.{items_first}
use Rattle.fadgi_rules.proofs.first_broken.Goals as goal

pub returns-in-Some : goal.returns-in-Some
returns-in-Some c =
    let f = values c.args.fields.now in
    let here : broken c.args.kind c.args.streams f c.args.edit.now Base ≡ Some c.in-Some.broken = sym (c.first_by_items.ensures ∙ ap (λ (e : List EditItem). broken c.args.kind c.args.streams f e Base) c.items-items.ensures.items) ∙ c.in-Some.is in
    sym (items_first c.args.kind c.args.streams f c.args.edit.now c.args.rules c.in-Some.broken here)

pub returns-in-None : goal.returns-in-None
returns-in-None c =
    c.first_by_fields.ensures ∙ ap (λ (e : List EditItem). broken c.args.kind c.args.streams (values c.args.fields.now) e c.args.rules) c.items-items.ensures.items
