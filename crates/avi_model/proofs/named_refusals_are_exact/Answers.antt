use Rattle.avi_model.proofs.NamesExact.{names_exact}
use Rattle.avi_model.proofs.named_refusals_are_exact.Goals as goal

pub returns : goal.returns
returns c = λ b. names_exact b
