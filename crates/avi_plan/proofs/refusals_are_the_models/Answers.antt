use Rattle.avi_plan.proofs.Refused.{tables_refused}
use Rattle.avi_plan.proofs.refusals_are_the_models.Goals as goal

pub returns : goal.returns
returns c = λ ms b base xs tabled. tables_refused ms b base xs tabled
