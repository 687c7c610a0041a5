use Rattle.mov_model.proofs.Relocated.{overlay_law}
use Rattle.mov_model.proofs.new_is_overlaid.Goals as goal

pub returns : goal.returns
returns c = λ o e b s. overlay_law o e b s.readable
