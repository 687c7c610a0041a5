use Rattle.wave_model.proofs.Kind.{after_spliced}
use Rattle.wave_model.proofs.widened_file_is_spliced.Goals as goal

pub returns-clause-spliced : goal.returns-clause-spliced
returns-clause-spliced c = λ o e bytes sup b l t. (after_spliced o e bytes sup b l t).0

pub returns-clause-ascend : goal.returns-clause-ascend
returns-clause-ascend c = λ o e bytes sup b l t. (after_spliced o e bytes sup b l t).1
