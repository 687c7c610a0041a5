use Rattle.std.proofs.Common.{◌∙◌, sym, ap, Bool, not, ◌||◌}
use Rattle.std.specs.List.{list_any}
use Rattle.part_tree.specs.Fields.{values}
use Rattle.fadgi_rules.specs.Present.{value_fails, shows_text}
use Rattle.fadgi_rules.proofs.Now.{lack_now, text_now, negative_now}
use Rattle.fadgi_rules.proofs.present.fails_now.Goals as goal

pub returns-then-not-shows_any : goal.returns-then-not-shows_any
returns-then-not-shows_any c =
    let f = values c.args.fields.now in
    let name = c.args.name.now in
    let shows = c.shows_any.ensures ∙ ap (list_any (shows_text name)) c.get-held.ensures in
    let some : Bool = list_any (value_fails c.args.rule name) (f name) in
    ap not c.if-not-shows_any.true ∙ sym (ap (λ (t : Bool). not t || some) c.if-not-shows_any.true)
    ∙ ap (λ (t : Bool). not t || some) shows ∙ lack_now c.args.rule f name c.in-HasDescription.is c.requires.looks

pub returns-else-not-shows_any : goal.returns-else-not-shows_any
returns-else-not-shows_any c =
    let f = values c.args.fields.now in
    let name = c.args.name.now in
    let shows = c.shows_any.ensures ∙ ap (list_any (shows_text name)) c.get-held.ensures in
    let some : Bool = list_any (value_fails c.args.rule name) (f name) in
    c.some_text_fails.ensures ∙ ap (list_any (value_fails c.args.rule name)) c.get-held.ensures
    ∙ sym (ap (λ (t : Bool). not t || some) c.if-not-shows_any.false)
    ∙ ap (λ (t : Bool). not t || some) shows ∙ lack_now c.args.rule f name c.in-HasDescription.is c.requires.looks

pub returns-in-History : goal.returns-in-History
returns-in-History c =
    c.some_text_fails-in-History.ensures ∙ ap (list_any (value_fails c.args.rule c.args.name.now)) c.get-held.ensures
    ∙ text_now c.args.rule (values c.args.fields.now) c.args.name.now c.in-History.is c.requires.looks

pub returns-in-Range : goal.returns-in-Range
returns-in-Range c =
    c.range_is_negative.ensures ∙ negative_now c.args.rule (values c.args.fields.now) c.args.name.now c.requires.lawful.bext c.in-Range.is c.requires.looks
