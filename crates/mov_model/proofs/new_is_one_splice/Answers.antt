use Rattle.mov_model.proofs.OneSplice.{one_splice}
use Rattle.mov_model.proofs.new_is_one_splice.Goals as goal

pub returns : goal.returns
returns c = λ o e b s. one_splice o b s.readable e
