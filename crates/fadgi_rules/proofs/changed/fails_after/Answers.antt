use Rattle.std.proofs.Common.{◌≡◌, ◌∙◌, sym, ap, Some, None, rules}
use Rattle.part_tree.specs.declared.field.Change.TheVariants.{Set, Remove}
use Rattle.part_tree.specs.Fields.{values}
use Rattle.fadgi_rules.specs.Changed.{change_in}
use Rattle.fadgi_rules.specs.Rows.{changed_fails, text_fails}
use Rattle.fadgi_rules.proofs.Passes.{fine_passes}
use Rattle.fadgi_rules.proofs.Tested.{rule_holds}
use Rattle.fadgi_rules.proofs.changed.fails_after.Goals as goal

pub returns-in-None : goal.returns-in-None
returns-in-None c =
    let f = values c.args.fields.now in
    let e = c.args.items.now in
    let held = rule_holds c.requires.fine.0 c.requires.fine.1 f e c.requires.lawful.bext c.requires.sound (fine_passes c.requires.fine.0 c.requires.fine.1 f e c.requires.fine.2) c.args.rule c.args.name.now c.requires.looks in
    let is : change_in f e c.args.name.now ≡ None = search rules in
    c.fails_now.ensures ∙ sym (held ∙ ap (changed_fails c.args.rule f c.args.name.now) is)

pub returns-in-Some-Remove : goal.returns-in-Some-Remove
returns-in-Some-Remove c =
    let f = values c.args.fields.now in
    let e = c.args.items.now in
    let held = rule_holds c.requires.fine.0 c.requires.fine.1 f e c.requires.lawful.bext c.requires.sound (fine_passes c.requires.fine.0 c.requires.fine.1 f e c.requires.fine.2) c.args.rule c.args.name.now c.requires.looks in
    let is : change_in f e c.args.name.now ≡ Some Remove = search rules in
    c.needs_text.ensures ∙ sym (held ∙ ap (changed_fails c.args.rule f c.args.name.now) is)

pub returns-in-Some-Set : goal.returns-in-Some-Set
returns-in-Some-Set c =
    let f = values c.args.fields.now in
    let e = c.args.items.now in
    let held = rule_holds c.requires.fine.0 c.requires.fine.1 f e c.requires.lawful.bext c.requires.sound (fine_passes c.requires.fine.0 c.requires.fine.1 f e c.requires.fine.2) c.args.rule c.args.name.now c.requires.looks in
    let is : change_in f e c.args.name.now ≡ Some (Set c.in-Some-Set.text) = search rules in
    c.text_fails.ensures ∙ ap (text_fails c.args.rule) c.as_slice.ensures ∙ sym (held ∙ ap (changed_fails c.args.rule f c.args.name.now) is)
