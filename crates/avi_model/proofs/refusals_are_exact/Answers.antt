use Rattle.avi_model.proofs.Exact.{exact}
use Rattle.avi_model.proofs.refusals_are_exact.Goals as goal

pub returns : goal.returns
returns c = λ b. exact b
