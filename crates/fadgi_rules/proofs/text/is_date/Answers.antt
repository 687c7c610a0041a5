use Rattle.std.proofs.Common.{◌∙◌, ap, ℕ}
use Rattle.std.specs.Prelude.{is_none}
use Rattle.fadgi_rules.proofs.Least.{nothing_told, date_told}
use Rattle.fadgi_rules.proofs.text.is_date.Goals as goal

pub returns : goal.returns
returns c = nothing_told c.is_none.result c.text_rule.result c.is_none.ensures ∙ ap (is_none {T = ℕ}) c.text_rule.ensures ∙ date_told c.args.text.now
