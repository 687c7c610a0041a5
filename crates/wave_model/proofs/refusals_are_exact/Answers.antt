use Rattle.wave_model.proofs.Why.{why_supported, supported_why}
use Rattle.wave_model.proofs.refusals_are_exact.Goals as goal

pub returns : goal.returns
returns c = λ b. ((λ e. why_supported b e), (λ s. supported_why b s))
