use Rattle.mov_model.proofs.Relocated.{splice_law}
use Rattle.mov_model.proofs.laid_is_spliced.Goals as goal

pub returns : goal.returns
returns c = λ o e b s. splice_law o e b s.readable
