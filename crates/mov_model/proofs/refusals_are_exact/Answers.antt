use Rattle.mov_model.proofs.Why.{none_supported, supported_none}
use Rattle.mov_model.proofs.refusals_are_exact.Goals as goal

pub returns : goal.returns
returns c = λ b. (λ e. none_supported b e, λ s. supported_none b s)
