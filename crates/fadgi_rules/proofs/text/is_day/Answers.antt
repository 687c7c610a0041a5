use Rattle.std.proofs.Common.{◌≡◌, ◌∙◌, sym, ap, Bool, false, ◌&&◌}
use Rattle.field_model.specs.Dates.{is_date}
use Rattle.fadgi_rules.specs.Days.{has_dashes}
use Rattle.fadgi_rules.proofs.Days.{day_is}
use Rattle.fadgi_rules.proofs.text.is_day.Goals as goal

pub returns-else-has_dashes : goal.returns-else-has_dashes
returns-else-has_dashes c =
    let text = c.args.text.now in
    let none : has_dashes text ≡ false = sym c.has_dashes.ensures ∙ c.if-has_dashes.false in
    c.if-has_dashes.false ∙ sym (day_is text ∙ ap (λ (t : Bool). t && is_date text) none)
