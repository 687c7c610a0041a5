use Rattle.mov_model.proofs.Relocated.{held_law}
use Rattle.mov_model.proofs.held_are_bytes.Goals as goal

pub returns : goal.returns
returns c = λ o p x b s h. held_law o p x b s.readable h
