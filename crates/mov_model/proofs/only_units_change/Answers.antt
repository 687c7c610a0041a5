use Rattle.mov_model.proofs.Still.{stay_law}
use Rattle.mov_model.proofs.only_units_change.Goals as goal

pub returns : goal.returns
returns c = λ o e b s h. stay_law o e b s.readable h
