use Rattle.mov_model.proofs.WideSpliced.{wide_splice}
use Rattle.mov_model.proofs.wide_is_one_splice.Goals as goal

pub returns : goal.returns
returns c = λ o e b s low. wide_splice o b s.readable s.small low e
